-- The first candidate that is left is the best of the routes that take part.
use Rattle.std.proofs.Common.{ℕ, ◌≡◌, inl, inr, Bool, true, false, cond, List, [], ◌∷◌, filter, refl, sym, ◌∙◌, ap, subst}
use Rattle.std.proofs.Common.{Option, None, Some}
use Rattle.std.specs.Prelude.{◌==◌, ◌&&◌, ◌||◌, nat_lt, not}
use Rattle.std.specs.List.{AllByRecursion, Contains, flat_map, list_any}
use Rattle.std.proofs.lemmas.Bool.Decides.{eqb_tells}
use Rattle.mn_base.proofs.Bools.{no, and_parts, less_itself, and_false, or_true}
use Rattle.mn_topo.specs.Network.{Network}
use Rattle.mn_topo.specs.Lawful.{IsLawful}
use Rattle.mn_topo.specs.declared.steps.JournalEntry.{JournalEntry}
use Rattle.mn_ledger.specs.Places.{loopback, vrf_at, edges}
use Rattle.mn_ledger.specs.World.{Config, Export}
use Rattle.mn_ledger.specs.Exports.{exports_of, present_with}
use Rattle.mn_ledger.specs.Bgp.{peers_live}
use Rattle.mn_ledger.specs.Held.{HeldRoute, Source, Own, Near, Far, held_by, own_routes, near_routes, imported, is_better, is_preferred, first_of, best}
use Rattle.mn_ledger.specs.Ledger.{world_of}
use Rattle.mn_ledger.specs.Lawful.{IsLawfulJournal}
use Rattle.mn_ledger.specs.Best.{NamesTheBest}
use Rattle.mn_ledger.specs.Turns.{IsInTurn}
use Rattle.mn_ledger.specs.Eligible.{covers, only_if}
use Rattle.mn_ledger.proofs.Eligible.{in_those}
use Rattle.mn_ledger.proofs.Members.{In, in_contained, contained_in, in_append, in_front, in_rest, in_map, in_filter, filter_in, in_flat_map, passes_none}
use Rattle.mn_ledger.proofs.OneKind.{one_passes}
use Rattle.mn_ledger.proofs.Turning.{loopbacks_apart}
use Rattle.mn_ledger.proofs.InTurn.{in_turn}
use Rattle.mn_ledger.proofs.Held.{one_held, held_formed}
use Rattle.mn_ledger.proofs.Choice.{Keeps, keeps, names_one}
use Rattle.mn_settled_laws.specs.Routes as routes
use Rattle.mn_settled_laws.specs.Routes.{routes_of}
use Rattle.mn_settled_laws.proofs.Mapped.{flat_map_in}
use Rattle.mn_settled_laws.proofs.Exporting.{AllTell}
use Rattle.mn_settled_laws.proofs.Holding.{all-tell}
use Rattle.mn_reach_laws.specs.Rest.{IsAtRest}
use Rattle.mn_reach_laws.specs.Fates.{routes_at_rest, is_reached, taking_part}
use Rattle.mn_reach_laws.proofs.Holding.{held-back}
use Rattle.mn_reach_laws.specs.Candidates.{AreInPreference, AreCandidates, is_told, chosen_by, chosen}

-- 1. Preference

same_test : (n : ℕ) → (n == n) ≡ true
same_test n = elim (eqb_tells n n) [ inl q ↦ q.0 | inr q ↦ absurd (q.1 refl) ]

not-preferred : (s : Source) → is_preferred s s ≡ false
not-preferred Own = refl
not-preferred (Near v) = less_itself v
not-preferred (Far a rd) = ap (λ b. b || ((a == a) && nat_lt rd rd)) (less_itself a) ∙ ap (λ b. (a == a) && b) (less_itself rd) ∙ and_false (a == a)

not-better : (r : HeldRoute) → is_better r r ≡ false
not-better r =
    ap (λ b. b || ((r.prefix.length == r.prefix.length) && is_preferred r.source r.source)) (less_itself r.prefix.length)
    ∙ ap (λ b. (r.prefix.length == r.prefix.length) && b) (not-preferred r.source) ∙ and_false (r.prefix.length == r.prefix.length)

all-filter : (P : HeldRoute → Type 0) (p : HeldRoute → Bool) (xs : List HeldRoute) → AllByRecursion P xs → AllByRecursion P (filter p xs)
all-filter P p [] h = tt
all-filter P p (x ∷ xs) h = by (all-filter P p xs h.1) (p x)
  where
    by : AllByRecursion P (filter p xs) → (b : Bool) → AllByRecursion P (cond b (x ∷ filter p xs) (filter p xs))
    by more true = (h.0, more)
    by more false = more

ordered-filter : (p : HeldRoute → Bool) (xs : List HeldRoute) → AreInPreference xs → AreInPreference (filter p xs)
ordered-filter p [] h = tt
ordered-filter p (x ∷ xs) h = by (ordered-filter p xs h.1) (p x)
  where
    by : AreInPreference (filter p xs) → (b : Bool) → AreInPreference (cond b (x ∷ filter p xs) (filter p xs))
    by more true = (all-filter (λ later. is_better later x ≡ false) p xs h.0, more)
    by more false = more

all-in : (P : HeldRoute → Type 0) (xs : List HeldRoute) (x : HeldRoute) → AllByRecursion P xs → In xs x → P x
all-in P [] x h i = absurd i
all-in P (y ∷ ys) x h i = elim i [ inl e ↦ subst P e h.0 | inr j ↦ all-in P ys x h.1 j ]

-- 2. The first of a sorted list is the best of the routes that are in it

module _ (xs ts : List HeldRoute) (address : ℕ) (ordered : AreInPreference ts) (names : NamesTheBest xs address)
    (there : (r : HeldRoute) → In xs r → covers address r ≡ true → In ts r) (back : (r : HeldRoute) → In ts r → In xs r × (covers address r ≡ true)) where
  first-best : best xs address ≡ first_of ts
  first-best = by_list ts refl
    where
      by_list : (us : List HeldRoute) → ts ≡ us → best xs address ≡ first_of us
      by_list [] e = by_best (best xs address) refl
        where
          by_best : (o : Option HeldRoute) → best xs address ≡ o → best xs address ≡ None
          by_best None f = f
          by_best (Some r) f =
              let b = names.named r f in
              absurd (subst (λ us. In us r) e (there r (in_contained xs r b.held) b.matches))
      by_list (u ∷ us) e =
          let mine = back u (subst (λ zs. In zs u) (sym e) (inl refl)) in
          names.one u (record {
            held = contained_in xs u mine.0;
            matches = mine.1;
            unbeaten = λ q c m. first_one q (subst (λ zs. In zs q) e (there q (in_contained xs q c) m));
          })
        where
          first_one : (q : HeldRoute) → In (u ∷ us) q → is_better q u ≡ false
          first_one q i = elim i [
            | inl f ↦ subst (λ z. is_better z u ≡ false) f (not-better u)
            | inr j ↦ all-in (λ later. is_better later u ≡ false) us q (subst AreInPreference e ordered).0 j
          ]

-- 3. A failure of sessions takes routes away

module _ (t : Network) (c : Config) (edge v : ℕ) where
  abbrev is_peer : ℕ → Bool
  is_peer peer = not (peer == edge) && peers_live c edge peer

  own-edge : (r : HeldRoute) → In (own_routes t c edge v) r → r.edge ≡ edge
  own-edge r i = let m = in_map (held_by edge Own) (present_with t c v []) r i in sym (ap (λ (z : HeldRoute). z.edge) m.2)

  near-edge : (r : HeldRoute) → In (near_routes t c edge v) r → r.edge ≡ edge
  near-edge r i =
      let m = in_map (λ (export : Export). held_by edge (Near export.vrf) export)
      (imported c v (filter (λ export. not (export.vrf == v)) (exports_of t c edge))) r i in
      sym (ap (λ (z : HeldRoute). z.edge) m.2)

  far-edge : (peer : ℕ) (r : HeldRoute) → In (routes.exported_by t c v peer) r → r.edge ≡ peer
  far-edge peer r i =
      let m = in_map (λ (export : Export). held_by peer (Far (loopback t peer) (vrf_at t export.vrf).rd.0) export) (imported c v (exports_of t c peer)) r i in
      sym (ap (λ (z : HeldRoute). z.edge) m.2)

  told-here : (r : HeldRoute) → r.edge ≡ edge → is_told c edge r ≡ true
  told-here r e = ap (λ n. (n == edge) || peers_live c edge n) e ∙ ap (λ b. b || peers_live c edge edge) (same_test edge)

  rest-told : (r : HeldRoute) → In (routes_at_rest t c edge v) r → In (routes_of t c edge v) r × (is_told c edge r ≡ true)
  rest-told r i = elim (in_append (own_routes t c edge v) _ r i) [
    | inl j ↦ (in_front (own_routes t c edge v) _ r j, told-here r (own-edge r j))
    | inr j ↦ elim (in_append (near_routes t c edge v) (flat_map (routes.exported_by t c v) (filter is_peer (edges t))) r j) [
      | inl k ↦ (in_rest (own_routes t c edge v) _ r (in_front (near_routes t c edge v) _ r k), told-here r (near-edge r k))
      | inr k ↦
          let m = in_flat_map (routes.exported_by t c v) (filter is_peer (edges t)) r k in
          let f = in_filter is_peer (edges t) m.0 m.1 in
          let both = and_parts (not (m.0 == edge)) (peers_live c edge m.0) f.1 in (
            in_rest (own_routes t c edge v) _ r (in_rest (near_routes t c edge v) _ r
                (flat_map_in (routes.exported_by t c v) (filter (λ peer. not (peer == edge)) (edges t)) m.0 r
                (filter_in (λ peer. not (peer == edge)) (edges t) m.0 f.0 both.0) m.2)),
            ap (λ n. (n == edge) || peers_live c edge n) (far-edge m.0 r m.2) ∙ ap (λ b. (m.0 == edge) || b) both.1 ∙ or_true (m.0 == edge),
          )
    ]
  ]

  told-rest : (r : HeldRoute) → In (routes_of t c edge v) r → is_told c edge r ≡ true → In (routes_at_rest t c edge v) r
  told-rest r i told = elim (in_append (own_routes t c edge v) _ r i) [
    | inl j ↦ in_front (own_routes t c edge v) _ r j
    | inr j ↦ elim (in_append (near_routes t c edge v) (flat_map (routes.exported_by t c v) (filter (λ peer. not (peer == edge)) (edges t))) r j) [
      | inl k ↦ in_rest (own_routes t c edge v) _ r (in_front (near_routes t c edge v) _ r k)
      | inr k ↦
          let m = in_flat_map (routes.exported_by t c v) (filter (λ peer. not (peer == edge)) (edges t)) r k in
          let f = in_filter (λ peer. not (peer == edge)) (edges t) m.0 m.1 in
          in_rest (own_routes t c edge v) _ r (in_rest (near_routes t c edge v) _ r
          (flat_map_in (routes.exported_by t c v) (filter is_peer (edges t)) m.0 r
          (filter_in is_peer (edges t) m.0 f.0 (ap (λ b. b && peers_live c edge m.0) f.1
          ∙ lives m.0 f.1 (sym (ap (λ n. (n == edge) || peers_live c edge n) (far-edge m.0 r m.2)) ∙ told))) m.2))
    ]
  ]
    where
      lives : (peer : ℕ) → not (peer == edge) ≡ true → ((peer == edge) || peers_live c edge peer) ≡ true → peers_live c edge peer ≡ true
      lives peer other h = by (peer == edge) other h
        where
          by : (b : Bool) → not b ≡ true → (b || peers_live c edge peer) ≡ true → peers_live c edge peer ≡ true
          by true n g = absurd (no n)
          by false n g = g

-- 4. The candidate that is chosen

module _ (t : Network) (c : Config) (edge v address : ℕ) (cs : List HeldRoute)
    (names : (b : Bool) → NamesTheBest (only_if b (is_reached t c edge) (routes_at_rest t c edge v)) address) (are : AreCandidates t c edge v address cs) where
  there : (r : HeldRoute) → In (routes_at_rest t c edge v) r → covers address r ≡ true → In (filter (is_told c edge) cs) r
  there r i m =
      let k = rest-told t c edge v r i in
      filter_in (is_told c edge) cs r (in_contained cs r (are.all r (contained_in (routes_of t c edge v) r k.0) m)) k.1

  back : (r : HeldRoute) → In (filter (is_told c edge) cs) r → In (routes_at_rest t c edge v) r × (covers address r ≡ true)
  back r i =
      let f = in_filter (is_told c edge) cs r i in
      let o = are.only r (contained_in cs r f.0) in
      (told-rest t c edge v r (in_contained (routes_of t c edge v) r o.0) f.1, o.1)

  all_best : best (routes_at_rest t c edge v) address ≡ first_of (filter (is_told c edge) cs)
  all_best =
      first-best (routes_at_rest t c edge v) (filter (is_told c edge) cs) address (ordered-filter (is_told c edge) cs are.ordered) (names false) there back

  reached_there : (r : HeldRoute) → In (filter (is_reached t c edge) (routes_at_rest t c edge v)) r → covers address r ≡ true
      → In (filter (is_reached t c edge) (filter (is_told c edge) cs)) r
  reached_there r i m =
      let f = in_filter (is_reached t c edge) (routes_at_rest t c edge v) r i in
      filter_in (is_reached t c edge) (filter (is_told c edge) cs) r (there r f.0 m) f.1

  reached_back : (r : HeldRoute) → In (filter (is_reached t c edge) (filter (is_told c edge) cs)) r
      → In (filter (is_reached t c edge) (routes_at_rest t c edge v)) r × (covers address r ≡ true)
  reached_back r i =
      let f = in_filter (is_reached t c edge) (filter (is_told c edge) cs) r i in
      let o = back r f.0 in
      (filter_in (is_reached t c edge) (routes_at_rest t c edge v) r o.0 f.1, o.1)

  reached_best : best (filter (is_reached t c edge) (routes_at_rest t c edge v)) address ≡ first_of (filter (is_reached t c edge) (filter (is_told c edge) cs))
  reached_best =
      first-best (filter (is_reached t c edge) (routes_at_rest t c edge v)) (filter (is_reached t c edge) (filter (is_told c edge) cs)) address
      (ordered-filter (is_reached t c edge) (filter (is_told c edge) cs) (ordered-filter (is_told c edge) cs are.ordered))
      (names true) reached_there reached_back

  by_first : (us : List HeldRoute) → filter (is_reached t c edge) (filter (is_told c edge) cs) ≡ us
      → best (only_if (list_any (covers address) (filter (is_reached t c edge) (routes_at_rest t c edge v))) (is_reached t c edge) (routes_at_rest t c edge v))
      address
      ≡ chosen_by true (first_of us) (first_of (filter (is_told c edge) cs))
  by_first [] e =
      ap (λ b. best (only_if b (is_reached t c edge) (routes_at_rest t c edge v)) address)
      (passes_none (covers address) (filter (is_reached t c edge) (routes_at_rest t c edge v)) (λ r i. nothing r i (covers address r) refl))
      ∙ all_best
    where
      nothing : (r : HeldRoute) → In (filter (is_reached t c edge) (routes_at_rest t c edge v)) r → (b : Bool) → covers address r ≡ b → covers address r ≡ false
      nothing r i false m = m
      nothing r i true m = absurd (subst (λ us. In us r) e (reached_there r i m))
  by_first (u ∷ us) e = ap (λ b. best (only_if b (is_reached t c edge) (routes_at_rest t c edge v)) address) some ∙ reached_best ∙ ap first_of e
    where
      some : list_any (covers address) (filter (is_reached t c edge) (routes_at_rest t c edge v)) ≡ true
      some =
          let o = reached_back u (subst (λ zs. In zs u) (sym e) (inl refl)) in
          one_passes (covers address) (filter (is_reached t c edge) (routes_at_rest t c edge v)) u o.0 o.1

  -- where the best of the routes is one
  pub chosen_is_best : best (taking_part t c edge v address) address ≡ chosen t c edge cs
  chosen_is_best = by_resolve t.resolve
    where
      by_resolve : (b : Bool)
          → best (only_if (b && list_any (covers address) (filter (is_reached t c edge) (routes_at_rest t c edge v))) (is_reached t c edge)
          (routes_at_rest t c edge v)) address
          ≡ chosen_by b (first_of (filter (is_reached t c edge) (filter (is_told c edge) cs))) (first_of (filter (is_told c edge) cs))
      by_resolve false = all_best
      by_resolve true = by_first (filter (is_reached t c edge) (filter (is_told c edge) cs)) refl

pub first_is_best : (t : Network) (es : List JournalEntry) (ps : List (List ℕ)) → IsLawful t → IsLawfulJournal t es ps → IsAtRest t (world_of t es)
    → (edge v address : ℕ) (cs : List HeldRoute) → Contains (edges t) edge → AreCandidates t (world_of t es).config edge v address cs
    → best (taking_part t (world_of t es).config edge v address) address ≡ chosen t (world_of t es).config edge cs
first_is_best t es ps lawful journal rest edge v address cs at_edge are = chosen_is_best t (world_of t es).config edge v address cs names are
  where
    turn : IsInTurn t (world_of t es)
    turn = in_turn t es ps lawful journal

    tell : AllTell t (world_of t es).config (world_of t es).peerings
    tell = all-tell t es ps lawful journal

    names : (b : Bool) → NamesTheBest (only_if b (is_reached t (world_of t es).config edge) (routes_at_rest t (world_of t es).config edge v)) address
    names b =
        let k : Keeps t (world_of t es) = keeps t es ps lawful journal in
        let given = λ (r : HeldRoute) (i : In (only_if b (is_reached t (world_of t es).config edge) (routes_at_rest t (world_of t es).config edge v)) r).
        held-back t (world_of t es) turn rest tell edge v (in_contained (edges t) edge at_edge) r
        (in_those b (is_reached t (world_of t es).config edge) (routes_at_rest t (world_of t es).config edge v) r i) in
        names_one (only_if b (is_reached t (world_of t es).config edge) (routes_at_rest t (world_of t es).config edge v)) address
        (λ a i. held_formed t (world_of t es).config (world_of t es).peerings edge v a k.forms k.told (given a i))
        (λ a c i j source prefix. one_held t (world_of t es).config (world_of t es).peerings edge v a c lawful (loopbacks_apart t lawful) k.statics k.told
        (given a i) (given c j) source prefix)
