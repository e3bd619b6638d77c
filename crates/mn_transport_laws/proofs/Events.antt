-- What happens to a node as a link turns, or LDP is switched for it.
use Rattle.std.proofs.Common.{ℕ, ◌≡◌, Bool, true, false, not, refl, sym, ◌∙◌, ap, Option, None, Some}
use Rattle.std.specs.Prelude.{◌&&◌, if◌then◌else◌}
use Rattle.mn_wiring.specs.Wiring.{is_end}
use Rattle.mn_base.specs.declared.numbers.LinkNo.{LinkNo}
use Rattle.mn_topo.specs.Network.{Network, wiring_of}
use Rattle.mn_topo.specs.declared.steps.Step.TheVariants as step
use Rattle.mn_node.specs.Machine.{Event}
use Rattle.mn_ledger.specs.Tables.{put}
use Rattle.mn_ledger.specs.World.{World}
use Rattle.mn_ledger.specs.Transport.{lives}
use Rattle.mn_ledger.specs.Ledger.{config_after}
use Rattle.mn_ledger.specs.Refusal.{agree}
use Rattle.mn_ledger.proofs.GoingBy.{put_here}
use Rattle.mn_slice_laws.specs.Slice.{event_of, turned}
use Rattle.mn_transport_laws.specs.Acting.{turned_by}

pub not_off : (b : Bool) → not b ≡ false → b ≡ true
not_off true e = refl
not_off false e = cc

pub no_end : (b : Bool) (o : Option Event) → b ≡ false → (if b then o else None) ≡ None
no_end true o e = cc
no_end false o e = refl

pub an_end : (b : Bool) (o : Option Event) → b ≡ true → (if b then o else None) ≡ o
an_end true o e = refl
an_end false o e = cc

pub no_event : (b : Bool) → (if b then None else None) ≡ (let o : Option Event = None in o)
no_event true = refl
no_event false = refl

pub switch_turns : (l : ℕ) (on was : Bool) → agree on was ≡ false → turned l was on ≡ Some (turned_by on l)
switch_turns l true true e = cc
switch_turns l true false e = refl
switch_turns l false true e = refl
switch_turns l false false e = cc

module _ (t : Network) (w : World) (l : LinkNo) where
  pub happens-up : w.config.is_up l.0 ≡ false → (on : Bool) → on ≡ w.config.ldp_on l.0 → (n : ℕ)
      → event_of t w (step.LinkUp l) n ≡ (if is_end (wiring_of t) l.0 n then turned l.0 false on else None)
  happens-up down on e n =
      ap (λ b. if is_end (wiring_of t) l.0 n then turned l.0 b (lives (config_after w.config (step.LinkUp l)) l.0) else None) dead
      ∙ ap (λ b. if is_end (wiring_of t) l.0 n then turned l.0 false b else None) living
    where
      dead : lives w.config l.0 ≡ false
      dead = ap (λ b. b && w.config.ldp_on l.0) down

      living : lives (config_after w.config (step.LinkUp l)) l.0 ≡ on
      living = ap (λ b. b && w.config.ldp_on l.0) (put_here w.config.is_up l.0 true) ∙ sym e

  pub happens-down : w.config.is_up l.0 ≡ true → (on : Bool) → on ≡ w.config.ldp_on l.0 → (n : ℕ)
      → event_of t w (step.LinkDown l) n ≡ (if is_end (wiring_of t) l.0 n then turned l.0 on false else None)
  happens-down up on e n =
      ap (λ b. if is_end (wiring_of t) l.0 n then turned l.0 b (lives (config_after w.config (step.LinkDown l)) l.0) else None) alive
      ∙ ap (λ b. if is_end (wiring_of t) l.0 n then turned l.0 on b else None) dies
    where
      alive : lives w.config l.0 ≡ on
      alive = ap (λ b. b && w.config.ldp_on l.0) up ∙ sym e

      dies : lives (config_after w.config (step.LinkDown l)) l.0 ≡ false
      dies = ap (λ b. b && w.config.ldp_on l.0) (put_here w.config.is_up l.0 false)

  pub happens-switch : (on up : Bool) → up ≡ w.config.is_up l.0 → (n : ℕ)
      → event_of t w (step.LdpAdmin l on) n ≡ (if is_end (wiring_of t) l.0 n then turned l.0 (up && w.config.ldp_on l.0) (up && on) else None)
  happens-switch on up e n =
      ap (λ b. if is_end (wiring_of t) l.0 n then turned l.0 (b && w.config.ldp_on l.0) (b && (put w.config.ldp_on l.0 on) l.0) else None) (sym e)
      ∙ ap (λ b. if is_end (wiring_of t) l.0 n then turned l.0 (up && w.config.ldp_on l.0) (up && b) else None) (put_here w.config.ldp_on l.0 on)
