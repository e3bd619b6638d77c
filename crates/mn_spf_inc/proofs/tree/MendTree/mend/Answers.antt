use Rattle.std.proofs.Common.{◌≡◌, ◌<◌, true, false, length, set, refl, sym, ap, ◌∙◌, subst, arith}
use Rattle.mn_base.proofs.Bools.{clash}
use Rattle.mn_wiring.specs.Wiring.{link, is_up}
use Rattle.mn_linkdb.specs.Learned.{Learned, links_up}
use Rattle.mn_spf.specs.Ways.{wiring_of}
use Rattle.mn_spf_inc.specs.declared.tree.MendTree.TheInside.{Inside}
use Rattle.mn_spf_inc.specs.Nets.{with_link}
use Rattle.mn_spf_inc.specs.Mending.{state_of, IsGrowing, IsCutting, OneLink, HeldOverEither, IsPassedOver}
use Rattle.mn_spf_inc.specs.Mended.{Mended, IsIdle, IsKept}
use Rattle.mn_spf_inc.proofs.Nets.{up_there, up_set}
use Rattle.mn_spf_inc.proofs.Lost.{link_came, link_lost}
use Rattle.mn_spf_inc.proofs.Turned.{other_than, failed_kept, mended_kept, idle_both}
use Rattle.mn_spf_inc.proofs.tree.MendTree.mend.Goals as goal
use Rattle.mn_spf_inc.proofs.tree.MendTree.mend.Goals.{then-up+in_ok-moved, else-up+in_ok-moved-2}

pub set-requires : goal.set-requires
set-requires g c = omega (arith, c.requires.there, ap (λ (x : Mended). length x.ends) c.self.view_is)

pub join-requires-clause-root : goal.join-requires-clause-root
join-requires-clause-root g c = omega (arith, c.self.invariant.there, ap (λ (x : Learned). x.nodes) c.set.ensures)

pub join-requires-clause-there : goal.join-requires-clause-there
join-requires-clause-there g c =
    omega (arith, c.requires.there, ap (λ (x : Mended). length x.ends) c.self.view_is, ap (λ (x : Learned). length x.ends) c.set.ensures)

pub join-requires-clause-up : goal.join-requires-clause-up
join-requires-clause-up g c =
    let v = c.self.inside.net in
    let there : c.args.number.0 < length v.counts =
    omega (arith, c.requires.there, ap (λ (x : Mended). length x.ends) c.self.view_is, c.self.invariant.network.one_each) in
    ap (λ (x : Learned). is_up (links_up x) c.args.number.0) c.set.ensures ∙ up_there v c.args.number.0 c.args.up there ∙ c.if-up.true

pub join-requires-clause-growing : goal.join-requires-clause-growing
join-requires-clause-growing g c =
    let v = c.self.inside.net in
    let root = c.self.inside.root.0 in
    let l = c.args.number.0 in
    let s = state_of c.self.inside.mend in
    let kept = c.self.invariant in
    let there : l < length v.counts = omega (arith, c.requires.there, ap (λ (x : Mended). length x.ends) c.self.view_is, kept.network.one_each) in
    let is : c.set.new.self ≡ with_link v l true = c.set.ensures ∙ ap (with_link v l) c.if-up.true in
    subst (λ (x : Learned). IsGrowing x root (OneLink l) s) (sym is) (link_came v root kept.network.network kept.there s (kept.mended c.if-self.false) l there)

pub join-requires-clause-none_cut : goal.join-requires-clause-none_cut
join-requires-clause-none_cut g c = (c.self.invariant.mended c.if-self.false).none_cut

pub part-requires-clause-root : goal.part-requires-clause-root
part-requires-clause-root g c = omega (arith, c.self.invariant.there, ap (λ (x : Learned). x.nodes) c.set.ensures)

pub part-requires-clause-there : goal.part-requires-clause-there
part-requires-clause-there g c =
    omega (arith, c.requires.there, ap (λ (x : Mended). length x.ends) c.self.view_is, ap (λ (x : Learned). length x.ends) c.set.ensures)

pub part-requires-clause-cutting : goal.part-requires-clause-cutting
part-requires-clause-cutting g c =
    let v = c.self.inside.net in
    let root = c.self.inside.root.0 in
    let l = c.args.number.0 in
    let s = state_of c.self.inside.mend in
    let kept = c.self.invariant in
    let there : l < length v.counts = omega (arith, c.requires.there, ap (λ (x : Mended). length x.ends) c.self.view_is, kept.network.one_each) in
    let is : c.set.new.self ≡ with_link v l false = c.set.ensures ∙ ap (with_link v l) c.if-up.false in
    subst (λ (x : Learned). IsCutting x root (HeldOverEither x root s.table l (link (wiring_of x) l).a.0 (link (wiring_of x) l).b.0) s) (sym is)
    (link_lost v root kept.network.network kept.there s (kept.mended c.if-self.false) l there)

pub part-requires-clause-no_ways : goal.part-requires-clause-no_ways
part-requires-clause-no_ways g c = (c.self.invariant.mended c.if-self.false).no_ways

pub part-requires-clause-none_cut : goal.part-requires-clause-none_cut
part-requires-clause-none_cut g c = (c.self.invariant.mended c.if-self.false).none_cut

pub invariant_of-self : goal.invariant_of-self
invariant_of-self g c =
    failed_kept c.self.inside.net c.set.new.self c.self.inside.root.0 c.args.number.0 c.args.up true
    (state_of c.join.new.self) refl c.set.ensures c.self.invariant.network c.self.invariant.there

pub invariant_of-self-in_err-moved-2 : goal.invariant_of-self-in_err-moved-2
invariant_of-self-in_err-moved-2 g c =
    failed_kept c.self.inside.net c.set.new.self c.self.inside.root.0 c.args.number.0 c.args.up true
    (state_of c.part.new.self) refl c.set.ensures c.self.invariant.network c.self.invariant.there

pub invariant_of-self-2 : goal.invariant_of-self-2
invariant_of-self-2 g c =
    elim c.if-up.branch [
      | then-up+in_ok-moved w ↦
          subst (λ (x : Inside). IsKept x.net x.root.0 false (state_of x.mend)) (sym w.self-inside-is)
          (mended_kept c.self.inside.net c.set.new.self c.self.inside.root.0 c.args.number.0 c.args.up false
          (state_of w.join.new.self) c.set.ensures c.self.invariant.network c.self.invariant.there w.in_ok-moved.ensures.mended)
      | else-up+in_ok-moved-2 w ↦
          subst (λ (x : Inside). IsKept x.net x.root.0 false (state_of x.mend)) (sym w.self-inside-is)
          (mended_kept c.self.inside.net c.set.new.self c.self.inside.root.0 c.args.number.0 c.args.up false
          (state_of w.part.new.self) c.set.ensures c.self.invariant.network c.self.invariant.there w.in_ok-moved-2.ensures.mended)
    ]

pub returns-clause-of : goal.returns-clause-of
returns-clause-of g c =
    elim c.if-up.branch [
      | then-up+in_ok-moved w ↦ (
        ap (λ (x : Inside). x.root.0) w.self-inside-is ∙ ap (λ (x : Mended). x.root) c.self.view_is,
        ap (λ (x : Inside). x.net.nodes) w.self-inside-is ∙ ap (λ (x : Learned). x.nodes) c.set.ensures ∙ ap (λ (x : Mended). x.nodes) c.self.view_is,
        ap (λ (x : Inside). x.net.ends) w.self-inside-is ∙ ap (λ (x : Learned). x.ends) c.set.ensures ∙ ap (λ (x : Mended). x.ends) c.self.view_is,
      )
      | else-up+in_ok-moved-2 w ↦ (
        ap (λ (x : Inside). x.root.0) w.self-inside-is ∙ ap (λ (x : Mended). x.root) c.self.view_is,
        ap (λ (x : Inside). x.net.nodes) w.self-inside-is ∙ ap (λ (x : Learned). x.nodes) c.set.ensures ∙ ap (λ (x : Mended). x.nodes) c.self.view_is,
        ap (λ (x : Inside). x.net.ends) w.self-inside-is ∙ ap (λ (x : Learned). x.ends) c.set.ensures ∙ ap (λ (x : Mended). x.ends) c.self.view_is,
      )
    ]

pub returns-clause-turned : goal.returns-clause-turned
returns-clause-turned g c =
    let v = c.self.inside.net in
    let rest : links_up c.set.new.self ≡ set c.args.self.now.up c.args.number.0 c.args.up =
    ap links_up c.set.ensures ∙ up_set v c.args.number.0 c.args.up ∙ ap (λ (x : Mended). set x.up c.args.number.0 c.args.up) c.self.view_is in
    elim c.if-up.branch [
      | then-up+in_ok-moved w ↦ ap (λ (x : Inside). links_up x.net) w.self-inside-is ∙ rest
      | else-up+in_ok-moved-2 w ↦ ap (λ (x : Inside). links_up x.net) w.self-inside-is ∙ rest
    ]

pub returns-clause-ok : goal.returns-clause-ok
returns-clause-ok g c = (sym (ap (λ (x : Mended). x.failed) c.self.view_is) ∙ c.if-self.false, refl)

-- the lost link was up, and no least walk went over it
pub returns-clause-idle : goal.returns-clause-idle
returns-clause-idle g c = λ f u i.
    let v = c.self.inside.net in
    let root = c.self.inside.root.0 in
    let l = c.args.number.0 in
    let s = state_of c.self.inside.mend in
    let kept = c.self.invariant in
    let there : l < length v.ends = omega (arith, c.requires.there, ap (λ (x : Mended). length x.ends) c.self.view_is) in
    let was : is_up (links_up v) l ≡ true =
    other_than (is_up (links_up v) l) c.args.up (λ e. c.requires.turns (ap (λ (x : Mended). is_up x.up l) (sym c.self.view_is) ∙ e)) u in
    let idle = subst (λ (x : Mended). IsIdle x l) (sym c.self.view_is) i in
    let p = idle_both v root kept.network kept.there s (kept.mended c.if-self.false) l there was idle.forth idle.back in
    let q = subst (λ (x : Learned). IsPassedOver root s.table (link (wiring_of x) l).a.0 (link (wiring_of x) l)) (sym c.set.ensures) p.0 in
    let r = subst (λ (x : Learned). IsPassedOver root s.table (link (wiring_of x) l).b.0 (link (wiring_of x) l)) (sym c.set.ensures) p.1 in
    elim c.if-up.branch [
      | then-up+in_ok-moved w ↦ absurd (clash (sym w.if-up.true ∙ u))
      | else-up+in_ok-moved-2 w ↦ (let k = w.in_ok-moved-2.ensures.idle q r in
          (refl, ap (λ (x : Inside). x.mend.tree) w.self-inside-is ∙ k.1 ∙ ap (λ (x : Mended). x.tree) c.self.view_is, w.steps-is ∙ k.2))
    ]

pub returns-in_err-moved-2-clause-idle : goal.returns-in_err-moved-2-clause-idle
returns-in_err-moved-2-clause-idle g c = λ f u i.
    let v = c.self.inside.net in
    let root = c.self.inside.root.0 in
    let l = c.args.number.0 in
    let s = state_of c.self.inside.mend in
    let kept = c.self.invariant in
    let there : l < length v.ends = omega (arith, c.requires.there, ap (λ (x : Mended). length x.ends) c.self.view_is) in
    let was : is_up (links_up v) l ≡ true =
    other_than (is_up (links_up v) l) c.args.up (λ e. c.requires.turns (ap (λ (x : Mended). is_up x.up l) (sym c.self.view_is) ∙ e)) u in
    let idle = subst (λ (x : Mended). IsIdle x l) (sym c.self.view_is) i in
    let p = idle_both v root kept.network kept.there s (kept.mended c.if-self.false) l there was idle.forth idle.back in
    let q = subst (λ (x : Learned). IsPassedOver root s.table (link (wiring_of x) l).a.0 (link (wiring_of x) l)) (sym c.set.ensures) p.0 in
    let r = subst (λ (x : Learned). IsPassedOver root s.table (link (wiring_of x) l).b.0 (link (wiring_of x) l)) (sym c.set.ensures) p.1 in
    absurd (clash (sym (c.in_err-moved-2.ensures.idle q r).0))
