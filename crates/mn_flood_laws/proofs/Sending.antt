-- What flies in a direction, and what is left once the first of it is taken.
use Rattle.std.proofs.Common.{ℕ, ◌≡◌, ◌<◌, ◌⊎◌, inl, inr, Bool, true, false, cond, List, [], ◌∷◌, length, Some, None}
use Rattle.std.proofs.Common.{refl, arith, sym, ◌∙◌, ap, subst}
use Rattle.std.specs.Prelude.{◌==◌}
use Rattle.mn_base.proofs.Bools.{no, and_left, and_right, same_numbers}
use Rattle.mn_base.proofs.Members.{In}
use Rattle.mn_wiring.specs.declared.links.Dir.{Dir}
use Rattle.mn_wiring.specs.declared.links.Dir.TheVariants.{Forth, Back}
use Rattle.mn_flood_laws.specs.Flood.{Sent, flies_on, first_on, without_first}

pub some_same : {A : Type 0} (x y : A) → Some x ≡ Some y → x ≡ y
some_same x y e = ap (λ o. elim o [ None ↦ x | Some z ↦ z ]) e

pub none_some : {A : Type 0} (x : A) → None ≡ Some x → ⊥
none_some x e = no (ap (λ o. elim o [ None ↦ false | Some z ↦ true ]) e)

same_dir : (one other : Dir) → Bool
same_dir Forth Forth = true
same_dir Forth Back = false
same_dir Back Forth = false
same_dir Back Back = true

-- it flies on this link in this direction
pub on_link : (l : ℕ) (dir : Dir) (sent : Sent) → flies_on l dir sent ≡ true → sent.link ≡ l
on_link l Forth sent h = same_numbers sent.link l (and_left (sent.link == l) _ h)
on_link l Back sent h = same_numbers sent.link l (and_left (sent.link == l) _ h)

forth : (dir : Dir) → elim dir [ Forth ↦ true | Back ↦ false ] ≡ true → dir ≡ Forth
forth Forth h = refl
forth Back h = absurd (no h)

back : (dir : Dir) → elim dir [ Forth ↦ false | Back ↦ true ] ≡ true → dir ≡ Back
back Forth h = absurd (no h)
back Back h = refl

pub in_direction : (l : ℕ) (dir : Dir) (sent : Sent) → flies_on l dir sent ≡ true → sent.dir ≡ dir
in_direction l Forth sent h = forth sent.dir (and_right (sent.link == l) _ h)
in_direction l Back sent h = back sent.dir (and_right (sent.link == l) _ h)

first_split : (l : ℕ) (dir : Dir) (x sent : Sent) (more : List Sent) (b : Bool) → flies_on l dir x ≡ b →
    (first_on l dir more ≡ Some sent → In more sent × (flies_on l dir sent ≡ true)) → cond b (Some x) (first_on l dir more) ≡ Some sent →
    In (x ∷ more) sent × (flies_on l dir sent ≡ true)
first_split l dir x sent more true e f h = (inl (some_same x sent h), subst (λ y. flies_on l dir y ≡ true) (some_same x sent h) e)
first_split l dir x sent more false e f h = let g = f h in (inr g.0, g.1)

pub first_flies : (l : ℕ) (dir : Dir) (flying : List Sent) (sent : Sent) → first_on l dir flying ≡ Some sent → In flying sent × (flies_on l dir sent ≡ true)
first_flies l dir [] sent h = absurd (none_some sent h)
first_flies l dir (x ∷ more) sent h = first_split l dir x sent more (flies_on l dir x) refl (first_flies l dir more sent) h

pub left_flew : (l : ℕ) (dir : Dir) (flying : List Sent) (sent : Sent) → In (without_first l dir flying) sent → In flying sent
left_flew l dir [] sent i = i
left_flew l dir (x ∷ more) sent i = by (flies_on l dir x) (left_flew l dir more sent) i
  where
    by : (b : Bool) → (In (without_first l dir more) sent → In more sent) → In (cond b more (x ∷ without_first l dir more)) sent → In (x ∷ more) sent
    by true f j = inr j
    by false f j = elim j [ inl e ↦ inl e | inr k ↦ inr (f k) ]

-- what flew still does, or it was the first
pub first_or_left : (l : ℕ) (dir : Dir) (flying : List Sent) (first sent : Sent) → first_on l dir flying ≡ Some first → In flying sent →
    (first ≡ sent) ⊎ In (without_first l dir flying) sent
first_or_left l dir [] first sent h i = absurd i
first_or_left l dir (x ∷ more) first sent h i = by (flies_on l dir x) (first_or_left l dir more first sent) h i
  where
    by : (b : Bool) → (first_on l dir more ≡ Some first → In more sent → (first ≡ sent) ⊎ In (without_first l dir more) sent) →
        cond b (Some x) (first_on l dir more) ≡ Some first → In (x ∷ more) sent → (first ≡ sent) ⊎ In (cond b more (x ∷ without_first l dir more)) sent
    by true f g j = elim j [ inl e ↦ inl (sym (some_same x first g) ∙ e) | inr k ↦ inr k ]
    by false f g j = elim j [
      | inl e ↦ inr (inl e)
      | inr k ↦ elim (f g k) [ inl e ↦ inl e | inr m ↦ inr (inr m) ]
    ]

pub one_less : (l : ℕ) (dir : Dir) (flying : List Sent) (sent : Sent) → first_on l dir flying ≡ Some sent → length (without_first l dir flying) < length flying
one_less l dir [] sent h = absurd (none_some sent h)
one_less l dir (x ∷ more) sent h = by (flies_on l dir x) (one_less l dir more sent) h
  where
    by : (b : Bool) → (first_on l dir more ≡ Some sent → length (without_first l dir more) < length more) →
        cond b (Some x) (first_on l dir more) ≡ Some sent → length (cond b more (x ∷ without_first l dir more)) < length (x ∷ more)
    by true f g = omega arith
    by false f g = omega (arith, f g)
