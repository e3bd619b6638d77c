-- The tree over links that are all down: the root alone.
use Rattle.std.proofs.Common.{ℕ, ◌≡◌, ◌≢◌, ◌<◌, true, false, List, [], length, get_or, set, replicate, refl, arith, sym, ◌∙◌, ap, inl, inr, subst}
use Rattle.std.proofs.Common.{get_or-set_other, get_or-set_same}
use Rattle.std.specs.Prelude.{Option, Some, None}
use Rattle.std.specs.declared.cmp.Reverse.{Reverse}
use Rattle.std.proofs.lemmas.Bool.Decides.{eqb_tells}
use Rattle.std.proofs.lemmas.List.{get_or-replicate, length-set, length-replicate}
use Rattle.std.proofs.lemmas.List.Elements.{All-nil}
use Rattle.std.proofs.lemmas.List.Sums.{count_by-le-length}
use Rattle.mn_base.proofs.Bools.{clash}
use Rattle.mn_wiring.specs.declared.links.LinkEnds.{LinkEnds}
use Rattle.mn_base.specs.declared.numbers.NodeNo.{NodeNo}
use Rattle.mn_wiring.specs.Wiring.{is_up}
use Rattle.mn_linkdb.specs.Learned.{Learned}
use Rattle.mn_linkdb.specs.PathTable.{PathTable, dist_at, next_at, nothing_known, with_entries}
use Rattle.mn_spf.specs.Ways.{goes, rank_in}
use Rattle.mn_spf.proofs.Walks.{goes_at}
use Rattle.mn_spf_inc.specs.declared.way.Way.{Way}
use Rattle.mn_spf_inc.specs.Nets.{all_down}
use Rattle.mn_spf_inc.specs.Mending.{State, IsFormed, IsMended, is_blank}
use Rattle.mn_spf_inc.proofs.Entries.{some_is, none_some}
use Rattle.mn_spf_inc.proofs.Nets.{none_up}

module _ (nodes root : ℕ) (ends : List LinkEnds) (here : root < nodes) where
  abbrev no_number : Option ℕ
  no_number = None

  abbrev t : PathTable
  t = with_entries (nothing_known nodes) root (Some 0) None

  abbrev fresh : State
  fresh = record { table = t; queue = []; cut = [] }

  none_goes : (n m : ℕ) → goes (all_down nodes ends) n m ≡ true → ⊥
  none_goes n m g =
      let a = goes_at (all_down nodes ends) n m g in
      clash (sym a.up ∙ ap (λ ups. is_up ups m) (none_up nodes ends) ∙ get_or-replicate (length ends) m false false a.there)

  dist_root : dist_at t root ≡ Some 0
  dist_root = get_or-set_same (replicate nodes None) root (Some 0) None (omega (arith, here, length-replicate nodes no_number))

  dist_none : (node : ℕ) → node ≢ root → node < nodes → dist_at t node ≡ None
  dist_none node q p = get_or-set_other (replicate nodes None) root node (Some 0) None q ∙ get_or-replicate nodes node None None p

  next_none : (node : ℕ) → node < nodes → next_at t node ≡ None
  next_none node p =
      elim (eqb_tells node root) [
        | inl e ↦ ap (λ n. get_or (set (replicate nodes no_hop) root no_hop) n no_hop) e.1
            ∙ get_or-set_same (replicate nodes no_hop) root no_hop no_hop (omega (arith, here, length-replicate nodes no_hop))
        | inr e ↦ get_or-set_other (replicate nodes no_hop) root node no_hop no_hop e.1 ∙ get_or-replicate nodes node no_hop no_hop p
      ]
    where
      no_hop : Option NodeNo
      no_hop = None

  formed_as : (node : ℕ) (o o' : Option ℕ) (n n' : Option NodeNo) → o ≡ o' → n ≡ n' → IsFormed root node o' n' → IsFormed root node o n
  formed_as node o o' n n' e f a = subst (λ x. IsFormed root node x n) (sym e) (subst (λ x. IsFormed root node o' x) (sym f) a)

  begun : IsMended (all_down nodes ends) root fresh
  begun =
      record {
        stands = record {
          one_each = record { dists = length-set _ root _ ∙ length-replicate nodes _; nexts = length-set _ root _ ∙ length-replicate nodes _ };
          root_cost = dist_root;
          root_hop = next_none root here;
          formed = λ node p.
              elim (eqb_tells node root) [
                | inl e ↦ formed_as node _ (Some 0) _ None (ap (dist_at t) e.1 ∙ dist_root) (next_none node p) e.1
                | inr e ↦ formed_as node _ None _ None (dist_none node e.1 p) (next_none node p) refl
              ];
          held = λ node known p q r. absurd (none_some known (sym (ap (λ o. rank_in o (next_at t node)) (dist_none node q p)) ∙ r));
          relaxed = λ node l known p g r. absurd (none_goes node l g);
          ways = All-nil (λ (way : Reverse Way). way.0.to < nodes);
          bounded = λ node cost p e.
              elim (eqb_tells node root) [
                | inl q ↦ (let z : 0 ≡ cost = some_is (sym dist_root ∙ ap (dist_at t) (sym q.1) ∙ e) in
                    omega (
                      arith,
                      z,
                      count_by-le-length is_blank t.dists,
                      length-set (replicate nodes no_number) root
                          (Some 0),
                      length-replicate nodes no_number,
                    ))
                | inr q ↦ absurd (none_some cost (sym (dist_none node q.1 p) ∙ e))
              ];
        };
        no_ways = refl;
        none_cut = refl;
      }

  pub started : (s : State) (v : Learned) → s ≡ fresh → v ≡ all_down nodes ends → IsMended v root s
  started s v e f = subst (λ x. IsMended x root s) (sym f) (subst (IsMended (all_down nodes ends) root) (sym e) begun)
