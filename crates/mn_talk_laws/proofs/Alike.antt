-- Where all that is told of is of one kind, both ways of telling it are the same words.
use Rattle.std.proofs.Common.{ℕ, ◌≡◌, ◌⊎◌, inl, inr, Bool, true, false, List, [], ◌∷◌, ◌++◌, map, filter, find}
use Rattle.std.proofs.Common.{refl, sym, ◌∙◌, ap, subst, append-nil}
use Rattle.std.specs.List.{flat_map}
use Rattle.mn_base.proofs.Bools.{no, two_ways}
use Rattle.mn_base.proofs.Members.{In, filter_in, contained_in}
use Rattle.mn_topo.specs.Network.{Network}
use Rattle.mn_topo.specs.declared.steps.Step.{Step}
use Rattle.mn_ledger.specs.World.{Config, Export, Announcement, Withdrawal}
use Rattle.mn_ledger.specs.Exports.{exports_of}
use Rattle.mn_ledger.specs.Bgp.{withdrawn, announced}
use Rattle.mn_ledger.specs.Ledger.{config_after}
use Rattle.mn_ledger.proofs.OneKind.{tells_one_kind}
use Rattle.mn_reflect_ledger_laws.specs.Words.{Announce, Withdraw, key_of, same_key, in_order, change}
use Rattle.mn_reflect_ledger_laws.specs.Picks.{plain}
use Rattle.mn_reflect_world_laws.proofs.EdgeNews.{key, AreExports, anew, gone, comes_told, goes_told}
use Rattle.mn_talk_laws.specs.Talk.{word_of}
use Rattle.mn_talk_laws.specs.Alike.{AreTidy, by_exports, by_routes}

pub nothing_left : {A B : Type 0} (f : A → B) (xs : List A) → map f xs ≡ [] → xs ≡ []
nothing_left f [] h = refl
nothing_left f (x ∷ xs) h = absurd (no (ap (λ zs. elim zs [ [] ↦ true | z ∷ more ↦ false ]) h))

pub left_out : (p : Export → Bool) (xs : List Export) → filter p xs ≡ [] → (x : Export) → In xs x → p x ≡ false
left_out p xs h x i = elim (two_ways (p x)) [ inr e ↦ e | inl e ↦ absurd (subst (λ zs. In zs x) h (filter_in p xs x i e)) ]

all_announced : (xs : List Export) → flat_map (λ (x : Export). Announce (plain x) ∷ []) xs ≡ map word_of (map (λ (x : Export). Announcement x) xs)
all_announced [] = refl
all_announced (x ∷ xs) = ap (λ ws. Announce (plain x) ∷ ws) (all_announced xs)

all_withdrawn : (xs : List Export) → flat_map (λ (x : Export). Withdraw (key x) ∷ []) xs
    ≡ map word_of (map (λ (x : Export). Withdrawal x.vrf x.prefix) xs)
all_withdrawn [] = refl
all_withdrawn (x ∷ xs) = ap (λ ws. Withdraw (key x) ∷ ws) (all_withdrawn xs)

alike : (xs ys : List Export) → AreExports xs ys → (withdrawn xs ys ≡ []) ⊎ (announced xs ys ≡ []) →
    flat_map (λ k. change k (find (λ o. same_key k (key_of o)) (map plain xs)) (find (λ o. same_key k (key_of o)) (map plain ys)))
    (in_order (map key_of (map plain xs) ++ map key_of (map plain ys)))
    ≡ map word_of (withdrawn xs ys ++ announced xs ys)
alike xs ys are (inl none) =
    comes_told xs ys are (λ ws. ws) refl (left_out (gone ys) xs (nothing_left (λ (x : Export). Withdrawal x.vrf x.prefix) (filter (gone ys) xs) none))
    ∙ all_announced (filter (anew xs) ys)
    ∙ ap (λ ts. map word_of (ts ++ announced xs ys)) (sym none)
alike xs ys are (inr none) =
    goes_told xs ys are (λ ws. ws) refl (left_out (anew xs) ys (nothing_left (λ (x : Export). Announcement x) (filter (anew xs) ys) none))
    ∙ all_withdrawn (filter (gone ys) xs)
    ∙ ap (map word_of) (sym (append-nil (withdrawn xs ys)) ∙ ap (λ ts. withdrawn xs ys ++ ts) (sym none))

are_exports : (xs ys : List Export) → AreTidy xs ys → AreExports xs ys
are_exports xs ys are = record {
  old_up = are.old_up;
  new_up = are.new_up;
  old_one = λ x y i j h. are.old_one x y (contained_in xs x i) (contained_in xs y j) h;
  new_one = λ x y i j h. are.new_one x y (contained_in ys x i) (contained_in ys y j) h;
  kept = λ y x i j h. are.kept y x (contained_in ys y i) (contained_in xs x j) h;
}

pub tells_alike : (t : Network) (c : Config) (done : Step) (edge : ℕ) → AreTidy (exports_of t c edge) (exports_of t (config_after c done) edge) →
    by_routes t c (config_after c done) edge ≡ by_exports t c (config_after c done) edge
tells_alike t c done edge are =
    alike (exports_of t c edge) (exports_of t (config_after c done) edge) (are_exports (exports_of t c edge) (exports_of t (config_after c done) edge) are)
    (tells_one_kind t c done edge)
