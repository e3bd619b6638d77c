-- A static that goes leaves one fewer, and a VRF without a target exports nothing.
use Rattle.std.proofs.Common.{ℕ, suc, ◌≡◌, ◌-◌, inl, inr, Bool, true, false, cond, List, [], ◌∷◌, filter, length, refl, arith, sym, ◌∙◌, ap}
use Rattle.std.specs.Prelude.{◌==◌, ◌&&◌, not}
use Rattle.mn_base.specs.declared.numbers.Rt.{Rt}
use Rattle.mn_base.specs.declared.numbers.VrfNo.{VrfNo}
use Rattle.mn_base.proofs.Bools.{no, same_test, same_numbers, and_left, and_right, two_ways}
use Rattle.mn_base.proofs.Members.{In, AreApart, in_filter}
use Rattle.mn_prefix.specs.Prefix.{AddressBlock, same_prefix}
use Rattle.mn_prefix.proofs.Tables.{same_exact}
use Rattle.mn_topo.specs.Network.{Network}
use Rattle.mn_topo.specs.declared.steps.Step.TheVariants as step
use Rattle.mn_ledger.specs.Places.{vrf_of}
use Rattle.mn_ledger.specs.World.{SiteRoute, Config, Export}
use Rattle.mn_ledger.specs.Exports.{exports_of}
use Rattle.mn_ledger.specs.Ledger.{is_static, with_target, config_after}
use Rattle.mn_ledger.proofs.Statics.{SameStatic, HasStatics}
use Rattle.mn_ledger.proofs.OneKind.{AreSome, from_exports}
use Rattle.mn_ledger.proofs.GoingBy.{put_here}
use Rattle.mn_routing_laws.specs.Touched.{touches}

is_itself : (s : ℕ) (p : AddressBlock) → is_static s p (record { site = s; prefix = p }) ≡ true
is_itself s p = ap (λ b. b && same_prefix p p) (same_test s) ∙ ap (λ b. b && (p.length == p.length)) (same_test p.address) ∙ same_test p.length

the_static : (s : ℕ) (p : AddressBlock) (x : SiteRoute) → is_static s p x ≡ true → x ≡ record { site = s; prefix = p }
the_static s p x h =
    ap (λ n. record { site = n; prefix = x.prefix }) (same_numbers x.site s (and_left (x.site == s) (same_prefix x.prefix p) h))
    ∙ ap (λ q. record { site = s; prefix = q }) (same_exact x.prefix p (and_right (x.site == s) (same_prefix x.prefix p) h))

all_stay : (s : ℕ) (p : AddressBlock) (xs : List SiteRoute) → ((x : SiteRoute) → In xs x → is_static s p x ≡ false) →
    filter (λ static. not (is_static s p static)) xs ≡ xs
all_stay s p [] h = refl
all_stay s p (x ∷ xs) h =
    ap (λ b. cond (not b) (x ∷ filter (λ static. not (is_static s p static)) xs) (filter (λ static. not (is_static s p static)) xs)) (h x (inl refl))
    ∙ ap (λ ys. x ∷ ys) (all_stay s p xs (λ y i. h y (inr i)))

one_goes : (t : Network) (s : ℕ) (p : AddressBlock) (xs : List SiteRoute) → AreApart (SameStatic t) xs → In xs (record { site = s; prefix = p }) →
    suc (length (filter (λ static. not (is_static s p static)) xs)) ≡ length xs
one_goes t s p [] apart i = absurd i
one_goes t s p (x ∷ xs) apart i = by (is_static s p x) refl (λ j. one_goes t s p xs apart.1 j)
  where
    by : (b : Bool) → is_static s p x ≡ b →
        (In xs (record { site = s; prefix = p }) → suc (length (filter (λ static. not (is_static s p static)) xs)) ≡ length xs) →
        suc (length (cond (not b) (x ∷ filter (λ static. not (is_static s p static)) xs) (filter (λ static. not (is_static s p static)) xs))) ≡ suc (length xs)
    by true e more = ap (λ ys. suc (length ys)) (all_stay s p xs (λ y j. elim (two_ways (is_static s p y)) [
      | inr f ↦ f
      | inl f ↦
          (let same : x ≡ y = the_static s p x e ∙ sym (the_static s p y f) in
          absurd (apart.0 y j (ap (λ (z : SiteRoute). vrf_of t z.site) same, ap (λ (z : SiteRoute). z.prefix) same)))
    ]))
    by false e more = ap suc (more (elim i [
      | inl f ↦ absurd (no (sym e ∙ ap (is_static s p) f ∙ is_itself s p))
      | inr j ↦ j
    ]))

pub one_static_less : (t : Network) (xs : List SiteRoute) (s : ℕ) (p : AddressBlock) → HasStatics t xs → In xs (record { site = s; prefix = p }) →
    length (filter (λ static. not (is_static s p static)) xs) ≡ length xs - 1
one_static_less t xs s p has i = (let one = one_goes t s p xs has.apart i in omega (arith, one))

nothing_in : {A : Type 0} (xs : List A) → ((x : A) → In xs x → ⊥) → xs ≡ []
nothing_in [] h = refl
nothing_in (x ∷ xs) h = absurd (h x (inl refl))

pub none_exported : (t : Network) (c : Config) (v : VrfNo) (target : Rt) (on : Bool) (edge : ℕ) → with_target target.0 on (c.exports v.0) ≡ [] →
    filter (touches t (step.Export v on target)) (exports_of t (config_after c (step.Export v on target)) edge) ≡ []
unfolding AreSome
none_exported t c v target on edge none =
    nothing_in (filter (touches t (step.Export v on target)) (exports_of t (config_after c (step.Export v on target)) edge)) (λ e i.
    let new : Config = config_after c (step.Export v on target) in
    let f = in_filter (touches t (step.Export v on target)) (exports_of t new edge) e i in
    let b = from_exports t new edge e f.0 in
    let vrf : b.v ≡ v.0 = ap (λ (z : Export). z.vrf) b.is ∙ same_numbers e.vrf v.0 f.1 in
    let empty : new.exports b.v ≡ [] = ap new.exports vrf ∙ put_here c.exports v.0 (with_target target.0 on (c.exports v.0)) ∙ none in
    no (ap (λ ts. elim ts [ [] ↦ true | x ∷ more ↦ false ]) (sym b.some.2 ∙ empty)))
