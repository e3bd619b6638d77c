-- A joint behind those that are there.
use Rattle.std.proofs.Common.{◌≡◌, ◌≢◌, ◌==◌, ◌||◌, Bool, true, false, List, [], ◌∷◌, ◌++◌, slice_index_or, sym, ◌∙◌, arith}
use Rattle.std.proofs.lemmas.List.Elements.{All-append, All-nil, All-cons}
use Rattle.std.proofs.lemmas.List.Quantifiers.{all_pairs_push}
use Rattle.std.proofs.lemmas.List.Folds.{list_any_at}
use Rattle.mn_base.specs.declared.numbers.SiteNo.{SiteNo}
use Rattle.mn_topo.specs.Network.{Network}
use Rattle.mn_join_script.specs.Joints.{SitePair, is_joined, IsThere, AreSites, AreApart}

-- a site of an earlier joint is joined
taken_first : (joint : SitePair) (one other : SiteNo) → joint.0.0 ≡ one.0 → ((joint.0.0 == one.0) || (joint.1.0 == other.0)) ≡ true
taken_first joint one other e = grind (arith, e)

taken_second : (joint : SitePair) (one other : SiteNo) → joint.1.0 ≡ other.0 → ((joint.0.0 == one.0) || (joint.1.0 == other.0)) ≡ true
taken_second joint one other e = grind (arith, e)

-- a joint of sites that aren't joined stands apart from those before
pub one_apart : (joints : List SitePair) (joint : SitePair) → AreApart joints → is_joined joints joint.0 joint.1 ≡ false → AreApart (joints ++ joint ∷ [])
one_apart joints joint apart free =
    all_pairs_push (λ one other. (one.0.0 ≢ other.0.0) × (one.1.0 ≢ other.1.0)) joints joint apart
    (λ k d within. (
      λ e. differ (list_any_at test joints k d within (taken_first (slice_index_or joints k d) joint.0 joint.1 e)),
      λ e. differ (list_any_at test joints k d within (taken_second (slice_index_or joints k d) joint.0 joint.1 e)),
    ))
  where
    test : SitePair → Bool
    test j = (j.0.0 == joint.0.0) || (j.1.0 == joint.1.0)

    differ : is_joined joints joint.0 joint.1 ≡ true → ⊥
    differ e = let f : true ≡ false = sym e ∙ free in cc

-- and its sites are there, where they were before
pub one_there : (first second : Network) (joints : List SitePair) (joint : SitePair) → AreSites first second joints → IsThere first second joint →
    AreSites first second (joints ++ joint ∷ [])
one_there first second joints joint all there =
    All-append (IsThere first second) joints (joint ∷ []) all (All-cons (IsThere first second) joint [] there (All-nil (IsThere first second)))
