use Rattle.std.proofs.Common.{ℕ, zero, suc, ◌≡◌, ◌<◌, ◌∙◌, ap, arith, true, List, [], ◌∷◌, drop, length}
use Rattle.std.specs.Prelude.{◌==◌, ◌||◌, slice_index_or}
use Rattle.std.proofs.lemmas.Bool.Decides.{nat_tests}
use Rattle.mn_base.specs.declared.numbers.NodeNo.{NodeNo}
use Rattle.mn_bindings.specs.declared.event.LibEvent.{LibEvent}
use Rattle.mn_bindings.specs.declared.event.LibEvent.TheVariants.{Opened}
use Rattle.mn_bindings.specs.Tells.{opens}
use Rattle.mn_bindings.proofs.event.opens_any.Goals as goal

same : (n : ℕ) → (n == n) ≡ true
same n = grind (arith, nat_tests)

opened_there : (events : List LibEvent) (i : ℕ) (or : LibEvent) (to : NodeNo) → i < length events → slice_index_or events i or ≡ Opened to →
    opens (drop i events) to.0 ≡ true
opened_there [] i or to h e = absurd (omega (arith, h))
opened_there (x ∷ xs) zero or to h e = ap (λ y. opens (y ∷ xs) to.0) e ∙ ap (λ b. b || opens xs to.0) (same to.0)
opened_there (x ∷ xs) (suc i) or to h e = opened_there xs i or to (omega (arith, h)) e

pub returns-in-Opened-clause-some : goal.returns-in-Opened-clause-some
returns-in-Opened-clause-some c = λ _. (
  c.in-Opened.field-0.0,
  c.loop-event.invariant c.in-Opened.field-0.0
      ∙ opened_there c.args.events.now c.loop-event.event-index (Opened (record { 0 = 0 })) c.in-Opened.field-0 c.loop-event-test.true c.in-Opened.is,
)
