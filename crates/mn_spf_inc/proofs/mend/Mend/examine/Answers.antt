use Rattle.std.proofs.Common.{◌≡◌, ◌<◌, ℕ, sym, ◌∙◌, subst, arith}
use Rattle.std.specs.Prelude.{Some}
use Rattle.mn_linkdb.specs.Learned.{Learned}
use Rattle.mn_spf_inc.specs.declared.way.Way.{Way}
use Rattle.mn_spf_inc.specs.Ways.{way_at}
use Rattle.mn_spf_inc.specs.Mending.{State, state_of, IsCutting, IsKnown, OneLate}
use Rattle.mn_spf_inc.proofs.Entries.{known_way}
use Rattle.mn_spf_inc.proofs.Ends.{found_held, found_gone}
use Rattle.mn_spf_inc.proofs.mend.Mend.examine.Goals as goal

pub known-requires : goal.known-requires
known-requires g c = omega (arith, c.requires.there, c.requires.cutting.one_each.dists)

-- what is known of the node that is late: it is its way, and the way's end is late
late : (v : Learned) (root : ℕ) (s : State) (at : ℕ) (w : Way) → at < v.nodes → IsCutting v root (OneLate at) s → way_at s.table at ≡ Some w →
    IsCutting v root (OneLate w.to) s × IsKnown v root s.table w × (w.to ≡ at)
late v root s at w there h e =
    let k = known_way v root s.table at w there (h.formed at there) h.root_cost e in
    (subst (λ n. IsCutting v root (OneLate n) s) (sym k.1) h, k.0, k.1)

pub is_held-requires : goal.is_held-requires
is_held-requires g c =
    let k =
    late c.args.net.now c.args.root.0 (state_of c.args.self.now) c.args.way.to c.in-Some.known c.requires.there c.requires.cutting (sym c.in-Some.ensures) in
    record { root = c.requires.root; cutting = k.0; known = k.1 }

pub cut_off-requires : goal.cut_off-requires
cut_off-requires g c =
    let k =
    late c.args.net.now c.args.root.0 (state_of c.args.self.now) c.args.way.to c.in-Some.known c.requires.there c.requires.cutting (sym c.in-Some.ensures) in
    record { root = c.requires.root; cutting = k.0; known = k.1; not_root = λ e. c.requires.not_root (sym k.2 ∙ e) }

pub returns-then-is_held-clause-cutting : goal.returns-then-is_held-clause-cutting
returns-then-is_held-clause-cutting g c =
    let k =
    late c.args.net.now c.args.root.0 (state_of c.args.self.now) c.args.way.to c.in-Some.known c.requires.there c.requires.cutting (sym c.in-Some.ensures) in
    found_held c.args.net.now c.args.root.0 (state_of c.args.self.now) c.args.way.to c.requires.cutting c.in-Some.known k.1 k.2
    (c.is_held.ensures.held c.if-is_held.true)

pub returns-in_default-clause-cutting : goal.returns-in_default-clause-cutting
returns-in_default-clause-cutting g c =
    found_gone c.args.net.now c.args.root.0 (state_of c.args.self.now) c.args.way.to c.requires.cutting (sym c.in_default.ensures)
