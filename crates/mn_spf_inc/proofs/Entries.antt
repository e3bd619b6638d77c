-- What the entries of a node tell, and the ways that go on from it.
use Rattle.std.proofs.Common.{ℕ, ◌≡◌, ◌+◌, ◌*◌, ◌<◌, ◌≤◌, ◌==◌, Bool, true, false, refl, arith, sym, ◌∙◌, ap, subst}
use Rattle.std.specs.Prelude.{Option, Some, None, if◌then◌else◌}
use Rattle.std.proofs.lemmas.Bool.{eqb-true}
use Rattle.mn_base.specs.declared.numbers.NodeNo.{NodeNo}
use Rattle.mn_wiring.specs.Wiring.{link}
use Rattle.mn_linkdb.specs.Network.{IsNetwork}
use Rattle.mn_linkdb.specs.Learned.{Learned}
use Rattle.mn_linkdb.specs.PathTable.{PathTable, dist_at, next_at}
use Rattle.mn_spf.specs.Ways.{wiring_of, goes, rank, rank_in, rank_at, rank_over}
use Rattle.mn_spf.proofs.Walks.{link_is, beyond_below}
use Rattle.mn_spf_inc.specs.declared.way.Way.{Way}
use Rattle.mn_spf_inc.specs.Ways.{rank_of, way_over, way_in, way_at}
use Rattle.mn_spf_inc.specs.Mending.{IsFormed, IsKnown}
use Rattle.mn_spf.proofs.Steps.{rank_chosen, hop_fits}

pub some_is : {X : Type 0} {a b : X} → ◌≡◌ {A = Option X} (Some a) (Some b) → a ≡ b
some_is e = cc

pub none_some : {X : Type 0} (x : X) → ◌≡◌ {A = Option X} None (Some x) → ⊥
none_some x e = cc

-- 1. The way that the entries tell
pub way_rank : (d : Option ℕ) (n : Option NodeNo) (node : ℕ) (w : Way) → way_in d n node ≡ Some w →
    (w.to ≡ node) × (d ≡ Some w.cost) × (rank_in d n ≡ Some (rank_of w))
way_rank None n node w e = absurd (none_some w e)
way_rank (Some cost) None node w e =
    subst (λ (x : Way). (x.to ≡ node) × (◌≡◌ {A = Option ℕ} (Some cost) (Some x.cost)) × (rank_in (Some cost) None ≡ Some (rank_of x))) (some_is e)
    (refl, refl, refl)
way_rank (Some cost) (Some hop) node w e =
    subst (λ (x : Way). (x.to ≡ node) × (◌≡◌ {A = Option ℕ} (Some cost) (Some x.cost)) × (rank_in (Some cost) (Some hop) ≡ Some (rank_of x))) (some_is e)
    (refl, refl, refl)

way_fits : (d : Option ℕ) (n : Option NodeNo) (root node : ℕ) (w : Way) → way_in d n node ≡ Some w → IsFormed root node d n → w.hop < 65536
way_fits None n root node w e f = absurd (none_some w e)
way_fits (Some cost) None root node w e f = subst (λ (x : Way). x.hop < 65536) (some_is e) (omega arith)
way_fits (Some cost) (Some hop) root node w e f = subst (λ (x : Way). x.hop < 65536) (some_is e) f.0

way_starts : (d : Option ℕ) (n : Option NodeNo) (root node : ℕ) (w : Way) → way_in d n node ≡ Some w → IsFormed root node d n → node ≡ root → d ≡ Some 0 →
    (w.cost ≡ 0) × (w.hop ≡ 0)
way_starts None n root node w e f r z = absurd (none_some w e)
way_starts (Some cost) None root node w e f r z = subst (λ (x : Way). (x.cost ≡ 0) × (x.hop ≡ 0)) (some_is e) (some_is z, refl)
way_starts (Some cost) (Some hop) root node w e f r z = absurd (f.1 r)

no_rank : (d : Option ℕ) (n : Option NodeNo) (node : ℕ) → way_in d n node ≡ None → rank_in d n ≡ None
no_rank None n node e = refl
no_rank (Some cost) None node e = cc
no_rank (Some cost) (Some hop) node e = cc

pub known_way : (v : Learned) (root : ℕ) (t : PathTable) (node : ℕ) (w : Way) → node < v.nodes → IsFormed root node (dist_at t node) (next_at t node) →
    dist_at t root ≡ Some 0 → way_at t node ≡ Some w → IsKnown v root t w × (w.to ≡ node)
known_way v root t node w p f z e =
    let r : (w.to ≡ node) × (dist_at t node ≡ Some w.cost) × (rank_at t node ≡ Some (rank_of w)) = way_rank _ _ node w e in (
      record {
        there = subst (λ n. n < v.nodes) (sym r.0) p;
        fits = way_fits _ _ root node w e f;
        cost = ap (dist_at t) r.0 ∙ r.1;
        rank = ap (rank_at t) r.0 ∙ r.2;
        start = λ q. way_starts _ _ root node w e f (sym r.0 ∙ q) (ap (dist_at t) (sym r.0 ∙ q) ∙ z);
      },
      r.0,
    )

pub no_way : (t : PathTable) (node : ℕ) → way_at t node ≡ None → rank_at t node ≡ None
no_way t node e = no_rank _ _ node e

-- 2. Ways are compared by their ranks
pub same_parts : (c h c' h' : ℕ) → h < 65536 → h' < 65536 → rank c h ≡ rank c' h' → (c ≡ c') × (h ≡ h')
same_parts c h c' h' p q e = let f : c ≡ c' = omega (arith, p, q, e) in (f, omega (arith, f, e))

rank_more : (b : Bool) (cost c hop far : ℕ) → 0 < c → (b ≡ true → (cost ≡ 0) × (hop ≡ 0)) → rank cost hop < rank (cost + c) (if b then far else hop)
rank_more true cost c hop far p z = omega (arith, p, (z refl).0, (z refl).1)
rank_more false cost c hop far p z = omega (arith, p)

over_chosen : (b : Bool) (near near' c far : ℕ) → near ≤ near' → (if b then rank c far else near + 65536 * c) ≤ (if b then rank c far else near' + 65536 * c)
over_chosen true near near' c far p = omega arith
over_chosen false near near' c far p = omega (arith, p)

pub over_lower : (v : Learned) (root from near near' l : ℕ) → near ≤ near' → rank_over v root from near l ≤ rank_over v root from near' l
over_lower v root from near near' l p = over_chosen (from == root) near near' _ _ p

module _ (v : Learned) (root : ℕ) (net : IsNetwork v.nodes v.ends) (t : PathTable) (w : Way) (k : IsKnown v root t w) where
  abbrev pub over : ℕ → Way
  over l = way_over root w (link (wiring_of v) l)

  pub over_rank : (l : ℕ) → rank_of (over l) ≡ rank_over v root w.to (rank_of w) l
  over_rank l = rank_chosen (w.to == root) w.cost _ w.hop _ (λ e. k.start (eqb-true _ _ e))

  pub over_dearer : (l : ℕ) → 0 < (link (wiring_of v) l).cost → rank_of w < rank_of (over l)
  over_dearer l p = rank_more (w.to == root) w.cost _ w.hop _ p (λ e. k.start (eqb-true _ _ e))

  pub over_more : (l : ℕ) → goes v w.to l ≡ true → rank_of w < rank_of (over l)
  over_more l g = over_dearer l (link_is v net w.to l g).positive

  pub over_fits : (l : ℕ) → goes v w.to l ≡ true → (over l).hop < 65536
  over_fits l g = hop_fits (w.to == root) _ w.hop (omega (arith, beyond_below v net w.to l g, net.few_nodes)) k.fits
