-- The sites that are joined, one joint after another.
use Rattle.std.proofs.Common.{ℕ, zero, suc, ◌≡◌, ◌+◌, ◌<◌, ◌==◌, cond, Bool, true, false, List, [], ◌∷◌, ◌++◌, map, length, replicate, Option, Some, None, inl}
use Rattle.std.proofs.Common.{inr, refl, arith}
use Rattle.std.proofs.Common.{sym, ◌∙◌, ap, subst}
use Rattle.std.specs.Prelude.{slice_get, slice_set, slice_index_or, take, IfSome}
use Rattle.std.specs.List.{All}
use Rattle.std.specs.Option.{is_some}
use Rattle.std.proofs.lemmas.List.{take_more, length-set}
use Rattle.std.proofs.lemmas.List.Elements.{All-get_or, All-set}
use Rattle.std.proofs.lemmas.Option.{slice_get_read}
use Rattle.std.proofs.lemmas.Bool.Decides.{eqb_tells}
use Rattle.mn_base.specs.declared.numbers.SiteNo.{SiteNo}
use Rattle.mn_join_laws.specs.declared.leg.Which.{Which}
use Rattle.mn_join_laws.specs.declared.leg.Which.TheVariants.{First, Second}
use Rattle.mn_join_laws.specs.Pairing.{opposite, site_of, partner_in}
use Rattle.mn_join.specs.Ends.{here_of, there_of, LeadBelow}
use Rattle.mn_join.specs.Pairs.{joint_of, joined_to}

abbrev pub Joins : Type 0
Joins = List (SiteNo × SiteNo)

-- the partners of these joints, where one that comes first counts
abbrev pub AreJoined : Which → Joins → List (Option SiteNo) → Type 0
AreJoined which joints partners = (s : ℕ) → joined_to (slice_get partners s) ≡ partner_in which s (map joint_of joints)

abbrev or_else : Option ℕ → Option ℕ → Option ℕ
or_else None other = other
or_else (Some s) other = Some s

site_is : (which : Which) (joint : SiteNo × SiteNo) → site_of which (joint_of joint) ≡ (here_of which joint).0
site_is First joint = refl
site_is Second joint = refl

other_is : (which : Which) (joint : SiteNo × SiteNo) → site_of (opposite which) (joint_of joint) ≡ (there_of which joint).0
other_is First joint = refl
other_is Second joint = refl

abbrev one_more : Which → ℕ → SiteNo × SiteNo → Option ℕ
one_more which s joint = cond ((here_of which joint).0 == s) (Some (there_of which joint).0) None

-- one joint more
more_joined : (which : Which) (s : ℕ) (joints : Joins) (joint : SiteNo × SiteNo)
    → partner_in which s (map joint_of (joints ++ joint ∷ [])) ≡ or_else (partner_in which s (map joint_of joints)) (one_more which s joint)
more_joined which s [] joint =
    ap (λ n. cond (n == s) (Some (site_of (opposite which) (joint_of joint))) None) (site_is which joint)
    ∙ ap (λ n. cond ((here_of which joint).0 == s) (Some n) None) (other_is which joint)
more_joined which s (j ∷ joints) joint = by (site_of which (joint_of j) == s) (more_joined which s joints joint)
  where
    by : (b : Bool) → partner_in which s (map joint_of (joints ++ joint ∷ [])) ≡ or_else (partner_in which s (map joint_of joints)) (one_more which s joint)
        → cond b (Some (site_of (opposite which) (joint_of j))) (partner_in which s (map joint_of (joints ++ joint ∷ [])))
        ≡ or_else (cond b (Some (site_of (opposite which) (joint_of j))) (partner_in which s (map joint_of joints))) (one_more which s joint)
    by true e = refl
    by false e = e

get_set_same : {A : Type 0} (xs : List A) (i : ℕ) (x : A) → i < length xs → slice_get (slice_set xs i x) i ≡ Some x
get_set_same [] i x h = absurd (omega (arith, h))
get_set_same (y ∷ xs) zero x h = refl
get_set_same (y ∷ xs) (suc i) x h = get_set_same xs i x (omega (arith, h))

get_set_other : {A : Type 0} (xs : List A) (i j : ℕ) (x : A) → (i ≡ j → ⊥) → slice_get (slice_set xs i x) j ≡ slice_get xs j
get_set_other [] i j x n = refl
get_set_other (y ∷ xs) zero zero x n = absurd (n refl)
get_set_other (y ∷ xs) zero (suc j) x n = refl
get_set_other (y ∷ xs) (suc i) zero x n = refl
get_set_other (y ∷ xs) (suc i) (suc j) x n = get_set_other xs i j x (λ e. n (ap suc e))

pub none_yet : (which : Which) (sites : ℕ) → AreJoined which [] (replicate sites None)
none_yet which zero s = refl
none_yet which (suc sites) zero = refl
none_yet which (suc sites) (suc s) = none_yet which sites s

-- a site that has a partner keeps it
pub joined_already : (which : Which) (joints : Joins) (joint : SiteNo × SiteNo) (partners : List (Option SiteNo)) (site : SiteNo) →
    AreJoined which joints partners
    → slice_get partners (here_of which joint).0 ≡ Some (Some site) → AreJoined which (joints ++ joint ∷ []) partners
joined_already which joints joint partners site h has s = elim (eqb_tells (here_of which joint).0 s) [
  | inl q ↦
      let is : partner_in which s (map joint_of joints) ≡ Some site.0 =
      sym (h s) ∙ ap (λ n. joined_to (slice_get partners n)) (sym q.1) ∙ ap joined_to has in
      h s ∙ is ∙ sym (more_joined which s joints joint ∙ ap (λ o. or_else o (one_more which s joint)) is)
  | inr q ↦ h s ∙ sym (more_joined which s joints joint
      ∙ ap (λ b. or_else (partner_in which s (map joint_of joints)) (cond b (Some (there_of which joint).0) None)) q.0
      ∙ alone (partner_in which s (map joint_of joints)))
]
  where
    alone : (o : Option ℕ) → or_else o None ≡ o
    alone None = refl
    alone (Some x) = refl

-- one that has none gets one
pub joined_now : (which : Which) (joints : Joins) (joint : SiteNo × SiteNo) (partners : List (Option SiteNo)) → AreJoined which joints partners
    → (here_of which joint).0 < length partners → slice_get partners (here_of which joint).0 ≡ Some None
    → AreJoined which (joints ++ joint ∷ []) (slice_set partners (here_of which joint).0 (Some (there_of which joint)))
joined_now which joints joint partners h below none s = elim (eqb_tells (here_of which joint).0 s) [
  | inl q ↦
      let is : partner_in which s (map joint_of joints) ≡ None =
      sym (h s) ∙ ap (λ n. joined_to (slice_get partners n)) (sym q.1) ∙ ap joined_to none in
      ap (λ n. joined_to (slice_get (slice_set partners (here_of which joint).0 (Some (there_of which joint))) n)) (sym q.1)
      ∙ ap joined_to (get_set_same partners (here_of which joint).0 (Some (there_of which joint)) below)
      ∙ sym (more_joined which s joints joint ∙ ap (λ o. or_else o (one_more which s joint)) is ∙ ap (λ b. cond b (Some (there_of which joint).0) None) q.0)
  | inr q ↦
      ap joined_to (get_set_other partners (here_of which joint).0 s (Some (there_of which joint)) q.1) ∙ h s
      ∙ sym (more_joined which s joints joint
      ∙ ap (λ b. or_else (partner_in which s (map joint_of joints)) (cond b (Some (there_of which joint).0) None)) q.0
      ∙ alone (partner_in which s (map joint_of joints)))
]
  where
    alone : (o : Option ℕ) → or_else o None ≡ o
    alone None = refl
    alone (Some x) = refl

-- what holds after so many joints
pub record JoinedSoFar (which : Which) (sites i : ℕ) (joints : Joins) (partners : List (Option SiteNo)) : Type 0 where
  pub many : length partners ≡ sites
  pub joined : AreJoined which (take i joints) partners
  pub below : (most : ℕ) → All (λ joint. (there_of which joint).0 < most) joints → LeadBelow most partners

abbrev pub no_joint : SiteNo × SiteNo
no_joint = (record { 0 = 0 }, record { 0 = 0 })

module _ (which : Which) (sites i : ℕ) (joints : Joins) (partners : List (Option SiteNo)) (h : JoinedSoFar which sites i joints partners)
    (inside : i < length joints) where
  abbrev pub joint : SiteNo × SiteNo
  joint = slice_index_or joints i no_joint

  pub joined_as : (new : List (Option SiteNo)) → AreJoined which (take i joints ++ joint ∷ []) new → AreJoined which (take (i + 1) joints) new
  joined_as new joined = subst (λ js. AreJoined which js new) (sym (take_more joints i no_joint inside)) joined

  pub joint_kept : (at : ℕ) (old : Option SiteNo) → at ≡ (here_of which joint).0 → at < length partners → old ≡ slice_index_or partners at old
      → is_some old ≡ true → JoinedSoFar which sites (i + 1) joints partners
  joint_kept at (Some site) is within read has = record {
    many = h.many;
    joined = joined_as partners
        (joined_already which (take i joints) joint partners site h.joined
        (ap (slice_get partners) (sym is) ∙ slice_get_read partners (length partners) at (Some site) refl within read));
    below = h.below;
  }
  joint_kept at None is within read has = absurd (let e : false ≡ true = has in cc)

  pub joint_set : (at : ℕ) (old : Option SiteNo) (site : SiteNo) → at ≡ (here_of which joint).0 → at < length partners → old ≡ slice_index_or partners at old
      → is_some old ≡ false → site ≡ there_of which joint → JoinedSoFar which sites (i + 1) joints (slice_set partners at (Some site))
  joint_set at None site is within read none to = record {
    many = length-set partners at (Some site) ∙ h.many;
    joined = joined_as (slice_set partners at (Some site))
        (subst (λ n. AreJoined which (take i joints ++ joint ∷ []) (slice_set partners n (Some site))) (sym is)
        (subst (λ s. AreJoined which (take i joints ++ joint ∷ []) (slice_set partners (here_of which joint).0 (Some s))) (sym to)
        (joined_now which (take i joints) joint partners h.joined (subst (λ n. n < length partners) is within)
        (ap (slice_get partners) (sym is) ∙ slice_get_read partners (length partners) at None refl within read))));
    below = λ most all.
        let P : Option SiteNo → Type 0 = λ partner. IfSome partner (λ s. s.0 < most) in
        All-set P partners at (Some site)
        (subst (λ (s : SiteNo). s.0 < most) (sym to) (All-get_or (λ j. (there_of which j).0 < most) joints i no_joint inside all)) (h.below most all);
  }
  joint_set at (Some old) site is within read none to = absurd (let e : true ≡ false = none in cc)
