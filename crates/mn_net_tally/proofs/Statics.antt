-- How many statics there are after a step.
use Rattle.std.proofs.Common.{ℕ, suc, ◌≡◌, ◌+◌, ◌-◌, ◌<◌, ◌≤◌, inl, inr, Bool, true, false, cond, List, [], ◌∷◌, ◌++◌, length, filter, refl, arith, sym, ap}
use Rattle.std.proofs.Common.{◌∙◌, subst, Option, Some, None}
use Rattle.std.specs.Prelude.{◌==◌, ◌&&◌, ◌||◌, not, nat_le}
use Rattle.std.specs.List.{list_any}
use Rattle.std.proofs.lemmas.List.{length-append}
use Rattle.mn_base.specs.declared.numbers.SiteNo.{SiteNo}
use Rattle.mn_base.proofs.Bools.{no, and_parts, not_at_most_tells, same_numbers}
use Rattle.mn_base.proofs.Members.{In, AreApart}
use Rattle.mn_prefix.specs.Prefix.{AddressBlock, same_prefix}
use Rattle.mn_topo.specs.Network.{Network}
use Rattle.mn_topo.specs.declared.steps.Step.{Step}
use Rattle.mn_topo.specs.declared.steps.Step.TheVariants.{AddRoute, DelRoute}
use Rattle.mn_ledger.specs.declared.refused.Refused.{Refused}
use Rattle.mn_ledger.specs.declared.refused.Refused.TheVariants.{RoutesFull, NoRouteThere}
use Rattle.mn_ledger.specs.Places.{vrf_of}
use Rattle.mn_ledger.specs.World.{SiteRoute, Config}
use Rattle.mn_ledger.specs.Ledger.{is_static, config_after}
use Rattle.mn_ledger.specs.Refusal.{taken_by, prefix_refusal, static_refusal}
use Rattle.mn_ledger.proofs.Statics.{SameStatic, HasStatics}
use Rattle.mn_prefix.proofs.Tables.{same_exact}
use Rattle.mn_net_tally.specs.Laws.{changes_statics}

pub statics_stay : (c : Config) (s : Step) → changes_statics s ≡ false → (config_after c s).statics ≡ c.statics
statics_stay c (AddRoute s p) h = absurd (no (sym h))
statics_stay c (DelRoute s p) h = absurd (no (sym h))
statics_stay c _ h = refl

-- one more, where there is room
pub one_static_more : (c : Config) (s : SiteNo) (p : AddressBlock) → length (config_after c (AddRoute s p)).statics ≡ length c.statics + 1
one_static_more c s p = length-append c.statics (record { site = s.0; prefix = p } ∷ [])

few_of : (o : Option ℕ) (count : ℕ) → prefix_refusal o count ≡ None → count < 65536
few_of None count h = by (nat_le 65536 count) refl h
  where
    by : (b : Bool) → nat_le 65536 count ≡ b → cond b (Some RoutesFull) None ≡ None → count < 65536
    by true e g = cc
    by false e g = not_at_most_tells 65536 count e
few_of (Some k) count h = cc

pub has_few : (t : Network) (c : Config) (s : SiteNo) (p : AddressBlock) → static_refusal t c (AddRoute s p) ≡ None → length c.statics < 65536
has_few t c s p h = few_of (taken_by t (vrf_of t s.0) p c.statics) (length c.statics) h

-- one less, since it is there, once
is_that : (s : ℕ) (p : AddressBlock) (x : SiteRoute) → is_static s p x ≡ true → (x.site ≡ s) × (x.prefix ≡ p)
is_that s p x g =
    let both = and_parts (x.site == s) (same_prefix x.prefix p) g in
    (same_numbers x.site s both.0, same_exact x.prefix p both.1)

all_stay : (p : SiteRoute → Bool) (xs : List SiteRoute) → ((x : SiteRoute) → In xs x → p x ≡ false) → filter (λ x. not (p x)) xs ≡ xs
all_stay p [] h = refl
all_stay p (x ∷ xs) h =
    ap (λ b. cond (not b) (x ∷ filter (λ y. not (p y)) xs) (filter (λ y. not (p y)) xs)) (h x (inl refl))
    ∙ ap (λ ys. x ∷ ys) (all_stay p xs (λ y i. h y (inr i)))

one_goes : (t : Network) (s : ℕ) (p : AddressBlock) (xs : List SiteRoute) → AreApart (SameStatic t) xs → list_any (is_static s p) xs ≡ true →
    length (filter (λ x. not (is_static s p x)) xs) + 1 ≡ length xs
one_goes t s p [] apart h = absurd (no h)
one_goes t s p (x ∷ xs) apart h = by (λ g. one_goes t s p xs apart.1 g) (is_static s p x) refl h
  where
    others : is_static s p x ≡ true → (y : SiteRoute) → In xs y → is_static s p y ≡ false
    others e y i = split (is_static s p y) refl
      where
        split : (b : Bool) → is_static s p y ≡ b → is_static s p y ≡ false
        split false g = g
        split true g = let one = is_that s p x e in let two = is_that s p y g in
            absurd (apart.0 y i (ap (vrf_of t) (one.0 ∙ sym two.0), one.1 ∙ sym two.1))

    by : (list_any (is_static s p) xs ≡ true → length (filter (λ y. not (is_static s p y)) xs) + 1 ≡ length xs) → (b : Bool) → is_static s p x ≡ b →
        (b || list_any (is_static s p) xs) ≡ true →
        length (cond (not b) (x ∷ filter (λ y. not (is_static s p y)) xs) (filter (λ y. not (is_static s p y)) xs)) + 1 ≡ suc (length xs)
    by later true e g = let all = ap length (all_stay (is_static s p) xs (others e)) in omega (arith, all)
    by later false e g = let rest = later g in omega (arith, rest)

there_of : (b : Bool) → cond b None (Some NoRouteThere) ≡ None → b ≡ true
there_of true h = refl
there_of false h = cc

pub one_static_less : (t : Network) (c : Config) (s : SiteNo) (p : AddressBlock) → HasStatics t c.statics → static_refusal t c (DelRoute s p) ≡ None →
    length (config_after c (DelRoute s p)).statics + 1 ≡ length c.statics
one_static_less t c s p has h = one_goes t s.0 p c.statics has.apart (there_of (list_any (is_static s.0 p) c.statics) h)
