-- What a network tells of a landing is the landing of the definitions.
use Rattle.std.proofs.Common.{ℕ, zero, suc, ◌≡◌, ◌+◌, ◌<◌, cond, true, false, List, [], ◌∷◌, length, slice_index_or, Option, Some, None, inl, inr, refl, arith}
use Rattle.std.proofs.Common.{◌∙◌, ap}
use Rattle.mn_base.proofs.Bools.{two_ways, none_below, same_test}
use Rattle.mn_base.specs.declared.numbers.SiteNo.{SiteNo}
use Rattle.mn_ledger.specs.declared.verdict.Verdict.{Verdict}
use Rattle.mn_ledger.specs.declared.verdict.Verdict.TheVariants.{Delivered, Dropped, Flying}
use Rattle.mn_ledger.specs.Packets.{Packets}
use Rattle.mn_ledger_laws.specs.Accounts.{is_copy}
use Rattle.mn_ledger_laws.proofs.Copies.{AreNumbered}
use Rattle.mn_sched.specs.Landing.{IsLandingOf, IsLanding}
use Rattle.mn_join_laws.specs.Pairing.{Landing, landed, landed_by, landed_as}

abbrev at_place : List Verdict → ℕ → Verdict
at_place vs p = slice_index_or vs p (Delivered 0 (record { 0 = 0 }) 0)

landing_of : ℕ → ℕ → List ℕ → Landing
landing_of packet site bytes = record { packet = packet; site = site; bytes = bytes }

-- a verdict that is no such copy is passed over
skips : (c : ℕ) (b : List ℕ) (n : ℕ) (v : Verdict) (vs : List Verdict) → is_copy c v ≡ false → landed_as c b n (v ∷ vs) ≡ landed_as c b (n + 1) vs
skips c b n (Delivered ttl s k) vs h = ap (λ t. cond t (Some (record { packet = n; site = s.0; bytes = b })) (landed_as c b (n + 1) vs)) h
skips c b n (Dropped cause node) vs h = refl
skips c b n (Flying link dir) vs h = refl

-- the one copy of its number is found
landed_at : (c : ℕ) (b : List ℕ) (n : ℕ) (vs : List Verdict) (p : ℕ) (s : SiteNo) (ttl : ℕ) → p < length vs → at_place vs p ≡ Delivered ttl s c
    → ((j : ℕ) → j < length vs → is_copy c (at_place vs j) ≡ true → j ≡ p)
    → landed_as c b n vs ≡ Some (record { packet = n + p; site = s.0; bytes = b })
landed_at c b n [] p s ttl below is once = absurd (none_below p below)
landed_at c b n (v ∷ vs) zero s ttl below is once =
    ap (λ x. landed_as c b n (x ∷ vs)) is
    ∙ ap (λ t. cond t (Some (record { packet = n; site = s.0; bytes = b })) (landed_as c b (n + 1) vs)) (same_test c)
    ∙ ap (λ m. Some (record { packet = m; site = s.0; bytes = b })) (more n)
  where
    more : (n : ℕ) → n ≡ n + 0
    more n = omega arith
landed_at c b n (v ∷ vs) (suc p) s ttl below is once =
    skips c b n v vs other
    ∙ landed_at c b (n + 1) vs p s ttl (omega (arith, below)) is (λ j h g. one_less j (once (suc j) (omega (arith, h)) g))
    ∙ ap (λ m. Some (record { packet = m; site = s.0; bytes = b })) (moved n p)
  where
    moved : (n p : ℕ) → n + 1 + p ≡ n + suc p
    moved n p = omega arith

    one_less : (j : ℕ) → suc j ≡ suc p → j ≡ p
    one_less j e = omega (arith, e)

    first : 0 ≡ suc p → ⊥
    first e = omega (arith, e)

    other : is_copy c v ≡ false
    other = elim (two_ways (is_copy c v)) [ inl q ↦ absurd (first (once 0 (omega arith) q)) | inr q ↦ q ]

-- a packet that a network tells is the landing
pub record IsIt (k : Packets) (packet : ℕ) (site : SiteNo) : Type 0 where
  pub landing : Landing
  pub landed : landed k ≡ Some landing
  pub delivered : k.delivered ≡ Some landing.bytes
  pub inside : packet < length k.verdicts
  pub same : landing.packet ≡ packet
  pub at : landing.site ≡ site.0

module _ (k : Packets) (numbered : AreNumbered k) where
  it_by : (o : Option (List ℕ)) (packet : ℕ) (site : SiteNo) → k.delivered ≡ o → IsLandingOf k o (Some (packet, site)) → IsIt k packet site
  it_by None packet site e h = absurd (none (packet, site) h)
    where
      none : (found : ℕ × SiteNo) → Some found ≡ None → ⊥
      none found h = cc
  it_by (Some b) packet site e h = record {
    landing = record { packet = 0 + packet; site = site.0; bytes = b };
    landed = ap (landed_by k) e
        ∙ landed_at k.copies b 0 k.verdicts packet site h.0 h.1 h.2 (λ j below copy. numbered.once k.copies j packet below h.1 copy
        (ap (is_copy k.copies) h.2 ∙ same_test k.copies));
    delivered = e;
    inside = h.1;
    same = plain packet;
    at = refl;
  }
    where
      plain : (p : ℕ) → 0 + p ≡ p
      plain p = omega arith

  pub is_it : (packet : ℕ) (site : SiteNo) → IsLanding k (Some (packet, site)) → IsIt k packet site
  is_it packet site h = it_by k.delivered packet site refl h

  none_by : (o : Option (List ℕ)) → k.delivered ≡ o → IsLandingOf k o None → landed k ≡ None
  none_by None e h = ap (landed_by k) e
  none_by (Some b) e h = absurd h

  pub is_none : IsLanding k None → landed k ≡ None
  is_none h = none_by k.delivered refl h
