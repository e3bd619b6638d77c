use Rattle.std.proofs.Common.{◌≡◌, ◌<◌, ℕ, Bool, true, false, List, [], ◌∷◌, length, get_or, set, sym, ap, ◌∙◌, refl, arith}
use Rattle.std.specs.Prelude.{not, count_by}
use Rattle.std.specs.declared.cmp.Reverse.{Reverse}
use Rattle.std.proofs.lemmas.List.{get_or_default}
use Rattle.std.proofs.lemmas.List.Elements.{All-head, All-tail}
use Rattle.std.proofs.lemmas.List.Sorted.{All-permutation}
use Rattle.mn_spf.specs.declared.way.Way.{Way}
use Rattle.std.specs.BinaryHeap.{heap_items}
use Rattle.mn_spf.specs.Search.{State, state_of, is_settled}
use Rattle.mn_spf.proofs.Steps.{stale, settles, settles_followed, one_settled, ended}
use Rattle.mn_spf.proofs.search.Search.nearest.Goals as goal

none_left : {X : Type 0} (xs : List X) → length xs ≡ 0 → xs ≡ []
none_left [] e = refl
none_left (x ∷ xs) e = absurd (omega (arith, e))

-- what is read of the marks
mark_read : (marks : List Bool) (at to : ℕ) (read : Bool) → read ≡ get_or marks at read → at ≡ to → to < length marks → get_or marks to false ≡ read
mark_read marks at to read e f p = get_or_default marks to false read p ∙ ap (λ n. get_or marks n read) (sym f) ∙ sym e

pub returns-then-not-index : goal.returns-then-not-index
returns-then-not-index c = λ learned root limit h.
    let k = c.loop-way.invariant.search learned root limit h in
    let way = c.in-Some.field-0.0 in
    let s = state_of c.loop-way.self in
    let s' : State =
    record { table = c.loop-way.self.tree; settled = set c.loop-way.self.settled.items c.from-to.result true; queue = heap_items c.pop.new.self } in
    let there : way.to < length s.settled =
    All-head (λ (w : Reverse Way). w.0.to < length c.loop-way.self.settled.items) _ _
    (All-permutation (λ (w : Reverse Way). w.0.to < length c.loop-way.self.settled.items) _ _ c.in-Some.ensures.permutation c.loop-way.invariant.there)
    in
    let marks : s'.settled ≡ set s.settled way.to true = ap (λ n. set c.loop-way.self.settled.items n true) c.from-to.ensures in
    let free : is_settled s way.to ≡ false =
    mark_read s.settled c.from-to.result way.to c.index.result.now c.index.ensures c.from-to.ensures there ∙ c.if-not-index.true in (
      settles learned root s s' way limit k c.in-Some.ensures.permutation c.in-Some.ensures.heap_order refl marks free,
      settles_followed learned root s s' way limit k c.in-Some.ensures.permutation c.in-Some.ensures.heap_order refl marks free,
      one_settled learned root s s' way limit k c.in-Some.ensures.permutation c.in-Some.ensures.heap_order refl marks free
          ∙ ap (count_by not) c.loop-way.invariant.settled,
    )

pub loop-way-preserved : goal.loop-way-preserved
loop-way-preserved c =
    let moved =
    All-permutation (λ (w : Reverse Way). w.0.to < length c.loop-way.self.settled.items) _ _ c.in-Some.ensures.permutation c.loop-way.invariant.there in
    let there : c.in-Some.field-0.0.to < length c.loop-way.self.settled.items =
    All-head (λ (w : Reverse Way). w.0.to < length c.loop-way.self.settled.items) _ _ moved in
    record {
      there = All-tail (λ (w : Reverse Way). w.0.to < length c.loop-way.self.settled.items) _ _ moved;
      settled = c.loop-way.invariant.settled;
      search = λ learned root limit h.
          stale learned root (state_of c.loop-way.self)
          (state_of (record { tree = c.loop-way.self.tree; settled = c.loop-way.self.settled; queue = c.pop.new.self })) c.in-Some.field-0.0 limit
          (c.loop-way.invariant.search learned root limit h) c.in-Some.ensures.permutation c.in-Some.ensures.heap_order refl refl
          (mark_read c.loop-way.self.settled.items c.from-to.result c.in-Some.field-0.0.to c.index.result.now c.index.ensures c.from-to.ensures there
          ∙ c.if-not-index.false);
    }

pub returns : goal.returns
returns c = λ learned root limit h.
    ended learned root (state_of c.loop-way.self) limit (c.loop-way.invariant.search learned root limit h)
    (none_left _ (omega (arith, c.loop-way.self.queue.data.ok.0, c.in_default.ensures.none)))
