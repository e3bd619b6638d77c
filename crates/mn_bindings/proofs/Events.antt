-- What events leave as it was, and when nothing is told.
use Rattle.std.proofs.Common.{ℕ, ◌≡◌, List, [], ◌∷◌, map, refl, ◌∙◌, ap, Bool, true, false, cond}
use Rattle.std.specs.Prelude.{not, ◌&&◌}
use Rattle.std.specs.List.{range_with_len}
use Rattle.std.proofs.lemmas.List.{length-set}
use Rattle.mn_bindings.specs.declared.event.LibEvent.{LibEvent}
use Rattle.mn_bindings.specs.declared.event.LibEvent.TheVariants.{Opened, Closed, Map, Withdraw, Released, Next}
use Rattle.mn_bindings.specs.Bindings.{Bindings, nodes, is_open, offers, after_event, after_events}
use Rattle.mn_bindings.specs.Tells.{told, tells_of, opens, mention, tell}
use Rattle.mn_bindings.proofs.Ranges.{flat_none}

pub nodes-after_event : (b : Bindings) (e : LibEvent) → nodes (after_event b e) ≡ nodes b
nodes-after_event b (Opened h) = refl
nodes-after_event b (Closed h) = refl
nodes-after_event b (Map h p l) = refl
nodes-after_event b (Withdraw h p) = refl
nodes-after_event b (Released h p) = refl
nodes-after_event b (Next p h) = length-set b.hops p.0 h

pub nodes-after_events : (b : Bindings) (es : List LibEvent) → nodes (after_events b es) ≡ nodes b
nodes-after_events b [] = refl
nodes-after_events b (e ∷ es) = nodes-after_events (after_event b e) es ∙ nodes-after_event b e

-- a FEC that is offered as before is told to nobody but a new neighbour
pub told-same : (b a' : Bool) (o : Bool) (h p : ℕ) → b ≡ a' → cond o (map (λ k. tell h k p) (mention (b && true) a')) [] ≡ []
told-same true true true h p e = refl
told-same true true false h p e = refl
told-same false false true h p e = refl
told-same false false false h p e = refl
told-same true false o h p e = cc
told-same false true o h p e = cc

pub told_of-same : (before : Bool) (a : Bindings) (es : List LibEvent) (p : ℕ) →
    ((h : ℕ) → opens es h ≡ false) → before ≡ offers a p → tells_of before a es p ≡ []
told_of-same before a es p n e =
    flat_none (told before a es p)
    (λ h. ap (λ o. cond (is_open a h) (map (λ k. tell h k p) (mention (before && not o) (offers a p))) []) (n h)
    ∙ told-same before (offers a p) (is_open a h) h p e)
    (range_with_len 0 (nodes a))
