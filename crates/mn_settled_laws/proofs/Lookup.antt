-- In a settled world the best route for an address is the one that the present configuration gives.
use Rattle.std.proofs.Common.{ℕ, ◌≡◌, Bool, true, false, List, refl, sym, ◌∙◌, ap, Option, None, Some}
use Rattle.std.specs.Prelude.{filter, ◌&&◌}
use Rattle.std.specs.List.{Contains, list_any}
use Rattle.mn_base.proofs.Bools.{clash}
use Rattle.mn_topo.specs.Network.{Network}
use Rattle.mn_topo.specs.Lawful.{IsLawful}
use Rattle.mn_topo.specs.declared.steps.JournalEntry.{JournalEntry}
use Rattle.mn_ledger.specs.Places.{edges}
use Rattle.mn_ledger.specs.World.{World}
use Rattle.mn_ledger.specs.Held.{HeldRoute, held, best}
use Rattle.mn_ledger.specs.Ledger.{world_of}
use Rattle.mn_ledger.specs.Lawful.{IsLawfulJournal}
use Rattle.mn_ledger.specs.Best.{IsBest, NamesTheBest}
use Rattle.mn_ledger.specs.Settled.{IsSettled}
use Rattle.mn_ledger.specs.Eligible.{is_resolved, covers, only_if, eligible}
use Rattle.mn_ledger.proofs.Eligible.{in_those}
use Rattle.mn_ledger.proofs.Members.{In, in_contained, contained_in, in_filter, filter_in, none_passes, passes_none}
use Rattle.mn_ledger.proofs.Turning.{loopbacks_apart}
use Rattle.mn_ledger.proofs.Held.{one_held, held_formed}
use Rattle.mn_ledger.proofs.Choice.{Keeps, keeps, names_one}
use Rattle.mn_settled_laws.specs.Routes.{routes_of, eligible_of}
use Rattle.mn_settled_laws.proofs.Holding.{hold_their_routes}

-- Two lists of the same routes have the same best one

some-best : (xs ys : List HeldRoute) (address : ℕ) → ((r : HeldRoute) → (Contains xs r → Contains ys r) × (Contains ys r → Contains xs r))
    → NamesTheBest xs address → NamesTheBest ys address → best xs address ≡ best ys address
some-best xs ys address same one other = by_best (best xs address) refl (best ys address) refl
  where
    across : (us vs : List HeldRoute) (r : HeldRoute) → ((q : HeldRoute) → Contains us q → Contains vs q) → ((q : HeldRoute) → Contains vs q → Contains us q)
        → IsBest us address r → IsBest vs address r
    across us vs r there back b = record { held = there r b.held; matches = b.matches; unbeaten = λ q c m. b.unbeaten q (back q c) m }

    by_best : (o : Option HeldRoute) → best xs address ≡ o → (q : Option HeldRoute) → best ys address ≡ q → best xs address ≡ best ys address
    by_best (Some r) e q f = e ∙ sym (other.one r (across xs ys r (λ z. (same z).0) (λ z. (same z).1) (one.named r e)))
    by_best None e None f = e ∙ sym f
    by_best None e (Some r) f = absurd (clash (sym (other.named r f).matches ∙ one.none e r ((same r).1 (other.named r f).held)))

pub looks_up : (t : Network) (es : List JournalEntry) (ps : List (List ℕ)) → IsLawful t → IsLawfulJournal t es ps → IsSettled t (world_of t es)
    → (edge v address : ℕ) → Contains (edges t) edge
    → best (held t (world_of t es).config (world_of t es).peerings edge v) address ≡ best (routes_of t (world_of t es).config edge v) address
looks_up t es ps lawful journal settled edge v address at_edge =
    let w : World = world_of t es in
    let k : Keeps t w = keeps t es ps lawful journal in
    let holds = λ (r : HeldRoute). hold_their_routes t es ps lawful journal settled edge v r at_edge in
    let back = λ (r : HeldRoute) (i : In (routes_of t w.config edge v) r). in_contained (held t w.config w.peerings edge v) r
    ((holds r).all (contained_in (routes_of t w.config edge v) r i)) in
    some-best (held t w.config w.peerings edge v) (routes_of t w.config edge v) address (λ r. ((holds r).only, (holds r).all))
    (names_one (held t w.config w.peerings edge v) address (λ a i. held_formed t w.config w.peerings edge v a k.forms k.told i)
    (λ a b i j source prefix. one_held t w.config w.peerings edge v a b lawful (loopbacks_apart t lawful) k.statics k.told i j source prefix))
    (names_one (routes_of t w.config edge v) address (λ a i. held_formed t w.config w.peerings edge v a k.forms k.told (back a i))
    (λ a b i j source prefix. one_held t w.config w.peerings edge v a b lawful (loopbacks_apart t lawful) k.statics k.told (back a i) (back b j) source prefix))

-- Of the same routes the same take part

module _ (p q : HeldRoute → Bool) (xs ys : List HeldRoute) (there : (r : HeldRoute) → In xs r → In ys r) where
  none_either : list_any p (filter q ys) ≡ false → list_any p (filter q xs) ≡ false
  none_either h =
      passes_none p (filter q xs) (λ x i. let m = in_filter q xs x i in none_passes p (filter q ys) x h (filter_in q ys x (there x m.0) m.1))

  only_there : (b : Bool) (r : HeldRoute) → In (only_if b q xs) r → In (only_if b q ys) r
  only_there true r i = let m = in_filter q xs r i in filter_in q ys r (there r m.0) m.1
  only_there false r i = there r i

same_any : (p q : HeldRoute → Bool) (xs ys : List HeldRoute) → ((r : HeldRoute) → In xs r → In ys r) → ((r : HeldRoute) → In ys r → In xs r) →
    list_any p (filter q xs) ≡ list_any p (filter q ys)
same_any p q xs ys there back =
    both (list_any p (filter q xs)) (list_any p (filter q ys)) (none_either p q ys xs back) (none_either p q xs ys there)
  where
    both : (a b : Bool) → (a ≡ false → b ≡ false) → (b ≡ false → a ≡ false) → a ≡ b
    both true true f g = refl
    both false false f g = refl
    both true false f g = absurd (clash (g refl))
    both false true f g = absurd (clash (f refl))

pub chooses : (t : Network) (es : List JournalEntry) (ps : List (List ℕ)) → IsLawful t → IsLawfulJournal t es ps → IsSettled t (world_of t es)
    → (edge v address : ℕ) → Contains (edges t) edge
    → best (eligible t (world_of t es) edge v address) address ≡ best (eligible_of t (world_of t es) edge v address) address
chooses t es ps lawful journal settled edge v address at_edge =
    let w : World = world_of t es in
    let k : Keeps t w = keeps t es ps lawful journal in
    let hs : List HeldRoute = held t w.config w.peerings edge v in
    let rs : List HeldRoute = routes_of t w.config edge v in
    let q : HeldRoute → Bool = is_resolved t w edge in
    let b : Bool = t.resolve && list_any (covers address) (filter q hs) in
    let holds = λ (r : HeldRoute). hold_their_routes t es ps lawful journal settled edge v r at_edge in
    let there = λ (r : HeldRoute) (i : In hs r). in_contained rs r ((holds r).only (contained_in hs r i)) in
    let back = λ (r : HeldRoute) (i : In rs r). in_contained hs r ((holds r).all (contained_in rs r i)) in
    let of_held = λ (r : HeldRoute) (i : In (only_if b q hs) r). in_those b q hs r i in
    let of_given = λ (r : HeldRoute) (i : In (only_if b q rs) r). back r (in_those b q rs r i) in
    some-best (only_if b q hs) (only_if b q rs) address
    (λ r. (
      (λ c. contained_in (only_if b q rs) r (only_there (covers address) q hs rs there b r (in_contained (only_if b q hs) r c))),
      (λ c. contained_in (only_if b q hs) r (only_there (covers address) q rs hs back b r (in_contained (only_if b q rs) r c))),
    ))
    (names_one (only_if b q hs) address (λ a i. held_formed t w.config w.peerings edge v a k.forms k.told (of_held a i))
    (λ a c i j source prefix. one_held t w.config w.peerings edge v a c lawful (loopbacks_apart t lawful) k.statics k.told (of_held a i) (of_held c j)
    source prefix))
    (names_one (only_if b q rs) address (λ a i. held_formed t w.config w.peerings edge v a k.forms k.told (of_given a i))
    (λ a c i j source prefix. one_held t w.config w.peerings edge v a c lawful (loopbacks_apart t lawful) k.statics k.told (of_given a i) (of_given c j)
    source prefix))
    ∙ ap (λ any. best (only_if (t.resolve && any) q rs) address) (same_any (covers address) q hs rs there back)
