-- The words of a command line, form by form.
use Rattle.std.proofs.Common.{◌≡◌, ◌==◌, ◌&&◌, arith, ℕ, Bool, true, false, if◌then◌else◌, List, length, Option, Some, None, refl, ap, sym, ◌∙◌}
use Rattle.std.proofs.lemmas.Bool.Decides.{nat_tests}
use Rattle.std.specs.Prelude.{codes, nat_eq, not, ◌||◌}
use lib.Pointwise.{pointwise}
use Rattle.mn_base.proofs.Bools.{and_left, and_right}
use Rattle.mn_edge.proofs.Entries.{text-eq}
use Rattle.mn_text.specs.Numbers.{number_up_to}
use Rattle.mn_join_run.specs.Inside.{is_inside}
use Rattle.mn_run.specs.declared.words.Job.TheVariants.{Run, Check, Flood, Reflect, Join, Reach, Generate}
use Rattle.mn_run.specs.Words.{word, is_run, is_check, is_flood, is_reflect, is_join, is_reach, generator_number, generating, job_of}

-- the capture of a run lies outside its folder
pub apart : (words : List (List ℕ)) → is_run words ≡ true → is_inside (word words 3) (word words 4) ≡ false
apart words run =
    outside (is_inside (word words 1) (word words 4)) (is_inside (word words 2) (word words 4)) (is_inside (word words 3) (word words 4))
    (and_right (pointwise nat_eq (word words 0) (codes "run")) _ (and_right (length words == 5) _ run))
  where
    outside : (topology script capture : Bool) → not (topology || (script || capture)) ≡ true → capture ≡ false
    outside topology script false h = refl
    outside true script true h = cc
    outside false true true h = cc
    outside false false true h = cc

-- the capture of two joined networks lies outside their folder
pub joined_apart : (words : List (List ℕ)) → is_join words ≡ true → is_inside (word words 5) (word words 6) ≡ false
joined_apart words join =
    outside (is_inside (word words 1) (word words 6)) (is_inside (word words 2) (word words 6)) (is_inside (word words 3) (word words 6))
    (is_inside (word words 4) (word words 6)) (is_inside (word words 5) (word words 6))
    (and_right (pointwise nat_eq (word words 0) (codes "join")) _ (and_right (length words == 7) _ join))
  where
    outside : (a b c d capture : Bool) → not (a || (b || (c || (d || capture)))) ≡ true → capture ≡ false
    outside a b c d false h = refl
    outside true b c d true h = cc
    outside false true c d true h = cc
    outside false false true d true h = cc
    outside false false false true true h = cc
    outside false false false false true h = cc

-- the generator's words are two, so none of a run, of a flood, of reflected routes or of two joined networks
no_number : (k n : ℕ) (a b : Bool) (x : Option ℕ) (number : ℕ) → (k == 2) ≡ false → ((n == k) && a) ≡ true → (if (n == 2) && b then x else None) ≡ Some number →
    ⊥
no_number k n a b x number other h e =
    let many : (n == k) ≡ true = and_left (n == k) a h in
    let is : n ≡ k = grind (arith, nat_tests) in
    let none : None ≡ Some number = sym (ap (λ two. if two && b then x else None) (ap (λ n. n == 2) is ∙ other)) ∙ e in cc

-- nor are they those of a check
no_number_check : (words : List (List ℕ)) (number : ℕ) → is_check words ≡ true → generator_number words ≡ Some number → ⊥
no_number_check words number check is = not_both (length words == 2) (word words 0) (number_up_to (word words 1) 99) (and_right (length words == 2) _ check) is
  where
    not_both : (two : Bool) (w : List ℕ) (x : Option ℕ) → pointwise nat_eq w (codes "check") ≡ true →
        (if two && pointwise nat_eq w (codes "generate") then x else None) ≡ Some number → ⊥
    not_both true w x h e =
        let none : None ≡ Some number = sym (ap (λ w. if pointwise nat_eq w (codes "generate") then x else None) (text-eq w (codes "check") h)) ∙ e in cc
    not_both false w x h e = let none : None ≡ Some number = e in cc

-- nor those of `reach`
no_number_reach : (words : List (List ℕ)) (number : ℕ) → is_reach words ≡ true → generator_number words ≡ Some number → ⊥
no_number_reach words number reach is =
    not_both (length words == 2) (word words 0) (number_up_to (word words 1) 99) (and_right ((length words == 2) || (length words == 3)) _ reach) is
  where
    not_both : (two : Bool) (w : List ℕ) (x : Option ℕ) → pointwise nat_eq w (codes "reach") ≡ true →
        (if two && pointwise nat_eq w (codes "generate") then x else None) ≡ Some number → ⊥
    not_both true w x h e =
        let none : None ≡ Some number = sym (ap (λ w. if pointwise nat_eq w (codes "generate") then x else None) (text-eq w (codes "reach") h)) ∙ e in cc
    not_both false w x h e = let none : None ≡ Some number = e in cc

-- words with a number ask for its run
pub number_job : (words : List (List ℕ)) (number : ℕ) → generator_number words ≡ Some number → job_of words ≡ Generate number
number_job words number is =
    by (is_run words) (is_check words) (is_flood words) (is_reflect words) (is_join words) (is_reach words) (λ run. other 5 refl _ run)
    (λ check. no_number_check words number check is) (λ flood. other 3 refl _ flood) (λ reflect. other 3 refl _ reflect) (λ join. other 7 refl _ join)
    (λ reach. no_number_reach words number reach is)
    ∙ ap generating is
  where
    other : (k : ℕ) → (k == 2) ≡ false → (a : Bool) → ((length words == k) && a) ≡ true → ⊥
    other k differs a h = no_number k (length words) a _ (number_up_to (word words 1) 99) number differs h is

    by : (run check flood reflect join reach : Bool) → (run ≡ true → ⊥) → (check ≡ true → ⊥) → (flood ≡ true → ⊥) → (reflect ≡ true → ⊥) → (join ≡ true → ⊥) →
        (reach ≡ true → ⊥) →
        (if run then Run else if check then Check else if flood then Flood else if reflect then Reflect else if join then Join else if reach then Reach else
        generating (generator_number words)) ≡ generating (generator_number words)
    by true check flood reflect join reach no_run no_check no_flood no_reflect no_join no_reach = absurd (no_run refl)
    by false true flood reflect join reach no_run no_check no_flood no_reflect no_join no_reach = absurd (no_check refl)
    by false false true reflect join reach no_run no_check no_flood no_reflect no_join no_reach = absurd (no_flood refl)
    by false false false true join reach no_run no_check no_flood no_reflect no_join no_reach = absurd (no_reflect refl)
    by false false false false true reach no_run no_check no_flood no_reflect no_join no_reach = absurd (no_join refl)
    by false false false false false true no_run no_check no_flood no_reflect no_join no_reach = absurd (no_reach refl)
    by false false false false false false no_run no_check no_flood no_reflect no_join no_reach = refl
