-- The tree is mended as a link of the view turns.
use Rattle.std.proofs.Common.{ℕ, zero, suc, ◌≡◌, ◌≢◌, ◌+◌, ◌<◌, Bool, true, false, length, set, refl, arith, sym, ◌∙◌, ap, subst}
use Rattle.std.proofs.Common.{get_or-set_same}
use Rattle.std.specs.Prelude.{◌==◌, ◌%◌, not, slice_index}
use Rattle.std.proofs.lemmas.List.{map-set, get_or-map, length-map}
use Rattle.mn_wiring.specs.Wiring.{Wiring, View, is_up}
use Rattle.mn_linkdb.specs.Changes.{is_odd}
use Rattle.mn_linkdb.specs.Learned.{Learned, links_up, after_learn}
use Rattle.mn_linkdb.specs.PathTable.{PathTable}
use Rattle.mn_linkdb.specs.Trees.{IsTree}
use Rattle.mn_spf_inc.specs.Mended.{Mended, IsOver}
use Rattle.mn_lsr.specs.declared.parts.Parts.{Parts}
use Rattle.mn_lsr.specs.Standing.{IsMendedFor}
use Rattle.mn_lsr.specs.Parts.{wiring_in, Stands}

odd_turns : (count : ℕ) → is_odd (count + 1) ≡ not (is_odd count)
odd_turns zero = refl
odd_turns (suc zero) = refl
odd_turns (suc (suc count)) =
    ap (λ n. n == 1) (let e : (suc (suc count) + 1) % 2 ≡ (count + 1) % 2 = omega arith in e) ∙ odd_turns count
    ∙ ap (λ n. not (n == 1)) (let e : count % 2 ≡ suc (suc count) % 2 = omega arith in e)

other : (b : Bool) → b ≢ not b
other true e = cc
other false e = cc

-- a tree that is mended is that of the view
pub tree-of : (w : Wiring) (view : View) (me : ℕ) (m : Mended) → IsMendedFor w view me m →
    (m.failed ≡ false → (x : Wiring) → IsOver x m → IsTree x m.up m.root m.tree) → IsTree w view me m.tree
tree-of w view me m is least =
    subst (λ ups. IsTree w ups me m.tree) is.up (subst (λ r. IsTree w m.up r m.tree) is.root (least is.sound w is.over))

module _ (p : Parts) (st : Stands p) (l : ℕ) (there : l < length p.view.ends) where
  abbrev count : ℕ
  count = slice_index p.view.counts l

  counted : l < length p.view.counts
  counted = omega (arith, there, st.view.one_each)

  view_turned : links_up (after_learn p.view l) ≡ set (links_up p.view) l (is_odd (count + 1))
  view_turned = map-set is_odd p.view.counts l (count + 1)

  up_then : is_up (links_up (after_learn p.view l)) l ≡ is_odd (count + 1)
  up_then =
      ap (λ ups. is_up ups l) view_turned
      ∙ get_or-set_same (links_up p.view) l (is_odd (count + 1)) false (omega (arith, counted, length-map p.view.counts is_odd))

  up_before : is_up p.mended.up l ≡ is_odd count
  up_before = ap (λ ups. is_up ups l) st.mended.up ∙ get_or-map is_odd p.view.counts l 0 false counted

  pub link_there : l < length p.mended.ends
  link_there = subst (λ ends. l < length ends) st.mended.over.ends there

  module _ (v : Learned) (learned : v ≡ after_learn p.view l) (up : Bool) (is : up ≡ is_up (links_up v) l) where
    up_is : up ≡ is_odd (count + 1)
    up_is = is ∙ ap (λ (x : Learned). is_up (links_up x) l) learned ∙ up_then

    pub turns : is_up p.mended.up l ≢ up
    turns e = other (is_odd count) (sym up_before ∙ e ∙ up_is ∙ odd_turns count)

    module _ (m : Mended) (same : (m.root ≡ p.mended.root) × (m.nodes ≡ p.mended.nodes) × (m.ends ≡ p.mended.ends)) (turned : m.up ≡ set p.mended.up l up)
        (sound : m.failed ≡ false) where
      pub mended-then : IsMendedFor (wiring_in p) (links_up (after_learn p.view l)) p.me.0 m
      mended-then = record {
        sound = sound;
        root = same.0 ∙ st.mended.root;
        over = record { nodes = st.mended.over.nodes ∙ sym same.1; ends = st.mended.over.ends ∙ sym same.2 };
        up = turned ∙ ap (λ ups. set ups l up) st.mended.up ∙ ap (set (links_up p.view) l) up_is ∙ sym view_turned;
      }

      pub tree-then : (tree : PathTable) → tree ≡ m.tree → (m.failed ≡ false → (w : Wiring) → IsOver w m → IsTree w m.up m.root m.tree) →
          IsTree (wiring_in p) (links_up (after_learn p.view l)) p.me.0 tree
      tree-then tree e least =
          subst (λ t. IsTree (wiring_in p) (links_up (after_learn p.view l)) p.me.0 t) (sym e)
          (tree-of (wiring_in p) (links_up (after_learn p.view l)) p.me.0 m mended-then least)
