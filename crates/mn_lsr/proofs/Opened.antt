-- A neighbour that opens has sent no label, so no way changes.
use Rattle.std.proofs.Common.{ℕ, zero, suc, ◌≡◌, true, false, List, [], ◌∷◌, Option, Some, None, refl, ap, replicate}
use Rattle.std.specs.Prelude.{is_some, slice_index_or, slice_set}
use Rattle.mn_base.specs.declared.numbers.NodeNo.{NodeNo}
use Rattle.mn_bindings.specs.declared.event.LibEvent.{LibEvent}
use Rattle.mn_bindings.specs.declared.event.LibEvent.TheVariants.{Opened, Closed, Map, Withdraw, Released, Next}
use Rattle.mn_bindings.specs.Bindings.{Bindings, nodes, row_of, label_learned, labelled, usable, usable_by, after_event, after_events, EventsFit}
use Rattle.mn_lsr.specs.Telling.{opens_one}

none-said : (n fec : ℕ) → (let o : Option ℕ = slice_index_or (replicate n None) fec None in o) ≡ None
none-said zero fec = refl
none-said (suc n) zero = refl
none-said (suc n) (suc fec) = none-said n fec

row-opened : (rows : List (Option (List (Option ℕ)))) (k h fec n : ℕ) → is_some (slice_index_or rows k None) ≡ false →
    label_learned (slice_index_or (slice_set rows k (Some (replicate n None))) h None) fec ≡ label_learned (slice_index_or rows h None) fec
row-opened [] k h fec n e = refl
row-opened (None ∷ rows) zero zero fec n e = none-said n fec
row-opened (Some r ∷ rows) zero zero fec n e = cc
row-opened (r ∷ rows) zero (suc h) fec n e = refl
row-opened (r ∷ rows) (suc k) zero fec n e = refl
row-opened (r ∷ rows) (suc k) (suc h) fec n e = row-opened rows k h fec n e

one-opened : (b : Bindings) (from : NodeNo) (fec : ℕ) → is_some (row_of b from.0) ≡ false → usable (after_event b (Opened from)) fec ≡ usable b fec
one-opened b from fec e = by (slice_index_or b.hops fec None)
  where
    by : (o : Option NodeNo) → usable_by (after_event b (Opened from)) fec o ≡ usable_by b fec o
    by None = refl
    by (Some hop) = ap (labelled hop) (row-opened b.heard from.0 hop.0 fec (nodes b) e)

pub usable_opened : (b : Bindings) (es : List LibEvent) → EventsFit b es → opens_one es ≡ true → (fec : ℕ) → usable (after_events b es) fec ≡ usable b fec
usable_opened b [] f e fec = refl
usable_opened b (Opened from ∷ []) f e fec = one-opened b from fec f.0.1
usable_opened b (Opened from ∷ x ∷ es) f e fec = cc
usable_opened b (Closed from ∷ es) f e fec = cc
usable_opened b (Map from q l ∷ es) f e fec = cc
usable_opened b (Withdraw from q ∷ es) f e fec = cc
usable_opened b (Released from q ∷ es) f e fec = cc
usable_opened b (Next q h ∷ es) f e fec = cc
