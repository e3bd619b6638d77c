-- No node gives an attachment two labels.
use Rattle.std.proofs.Common.{ℕ, zero, suc, ◌≡◌, ◌+◌, ◌<◌, ◌≤◌, ◌⊎◌, inl, inr, Bool, true, false, cond, List, [], ◌∷◌, ◌++◌, map, filter, length}
use Rattle.std.proofs.Common.{refl, arith, sym, ◌∙◌, ap, subst}
use Rattle.std.specs.Prelude.{◌==◌, if◌then◌else◌}
use Rattle.std.specs.List.{range_with_len}
use Rattle.mn_base.proofs.Bools.{no, and_left, and_right, same_numbers, same_test}
use Rattle.mn_base.proofs.Members.{In, AreApart, apart_filter, in_append, in_map, map_in, filter_in}
use Rattle.mn_labels.specs.declared.meaning.Bind.{Bind}
use Rattle.mn_labels.specs.declared.meaning.Bind.TheVariants.{Fec, Site}
use Rattle.mn_topo.specs.Network.{Network}
use Rattle.mn_topo.specs.declared.steps.Step.{Step}
use Rattle.mn_topo.specs.declared.steps.Step.TheVariants.{Attach}
use Rattle.mn_topo.specs.declared.steps.JournalEntry.{JournalEntry}
use Rattle.mn_ledger.specs.Places.{home_of, sites_at}
use Rattle.mn_ledger.specs.World.{Config}
use Rattle.mn_ledger.specs.Ledger.{config_after, first_config}
use Rattle.mn_ledger_laws.proofs.Announced.{attaches_grow}
use Rattle.mn_labels.specs.declared.meaning.Given.{Given}
use Rattle.mn_labels.specs.Labels.{is_attachment}
use Rattle.mn_frame_laws.specs.Given.{same_bind, attachment_of, label_given, label_in, given}
use Rattle.mn_frame_laws.proofs.Bridge.{attachments_first, attachments_by, attachments_from, attachments_given, journal_gives}
use Rattle.mn_frame_laws.proofs.Labels.{same_itself, same_is}

-- the second is the same as the first
abbrev pub Alike : Bind → Bind → Type 0
Alike one other = same_bind other one ≡ true

-- 1. Lists that are joined, and made of others

append_apart : (xs ys : List Bind) → AreApart Alike xs → AreApart Alike ys → ((x y : Bind) → In xs x → In ys y → Alike x y → ⊥) → AreApart Alike (xs ++ ys)
append_apart [] ys h g across = g
append_apart (x ∷ xs) ys h g across = (
  λ y i a. elim (in_append xs ys y i) [ inl j ↦ h.0 y j a | inr j ↦ across x y (inl refl) j a ],
  append_apart xs ys h.1 g (λ z y i j a. across z y (inr i) j a),
)

abbrev Same : ℕ → ℕ → Type 0
Same one other = one ≡ other

map_apart : (f : ℕ → Bind) → ((n m : ℕ) → Alike (f n) (f m) → n ≡ m) → (ns : List ℕ) → AreApart Same ns → AreApart Alike (map f ns)
map_apart f one [] h = tt
map_apart f one (n ∷ ns) h = (λ y i a. let m = in_map f ns y i in h.0 m.0 m.1 (one n m.0 (subst (λ z. Alike (f n) z) (sym m.2) a)), map_apart f one ns h.1)

above : (a n x : ℕ) → In (range_with_len a n) x → a ≤ x
above a zero x i = absurd i
above a (suc n) x i = elim i [ inl e ↦ omega (arith, e) | inr j ↦ (let h = above (a + 1) n x j in omega (arith, h)) ]

range_apart : (a n : ℕ) → AreApart Same (range_with_len a n)
range_apart a zero = tt
range_apart a (suc n) = (
  λ y i e. (let h = above (a + 1) n y i in let clash : a + 1 ≤ y → a ≡ y → ⊥ = (λ p q. omega (arith, p, q)) in clash h e),
  range_apart (a + 1) n,
)

-- 2. The attachments to which a node gives labels

firsts_one : (n m : ℕ) → Alike (attachment_of n 1) (attachment_of m 1) → n ≡ m
firsts_one n m a = sym (same_numbers m n (and_left (m == n) true a))

first_apart : (t : Network) (node : ℕ) → AreApart Alike (attachments_first t node)
first_apart t node =
    map_apart (λ site. attachment_of site 1) firsts_one _ (apart_filter Same (λ s. home_of t s == node) (range_with_len 0 (length t.sites)) (range_apart 0 _))

-- an attachment of the site whose number is at least this
record IsLater (c : Config) (bind : Bind) : Type 0 where
  site : ℕ
  number : ℕ
  is : bind ≡ attachment_of site number
  late : c.attaches site + 2 ≤ number

step_later : (t : Network) (node : ℕ) (c : Config) (s : Step) (bind : Bind) → In (attachments_by t node c s) bind →
    IsLater c bind × ((site number : ℕ) → bind ≡ attachment_of site number → number < (config_after c s).attaches site + 2)
step_later t node c (Attach s) bind i = by (home_of t s.0 == node) i
  where
    now : (if s.0 == s.0 then c.attaches s.0 + 1 else c.attaches s.0) ≡ c.attaches s.0 + 1
    now = let one : (s.0 == s.0) ≡ true = same_test s.0 in rw one refl

    few : (site number : ℕ) → attachment_of s.0 (c.attaches s.0 + 2) ≡ attachment_of site number → number < (config_after c (Attach s)).attaches site + 2
    few site number e =
        let name : s.0 ≡ site = ap site_of e in
        let count : c.attaches s.0 + 2 ≡ number = ap number_of e in
        subst (λ x. number < (config_after c (Attach s)).attaches x + 2) name (omega (arith, count, now))
      where
        site_of : Bind → ℕ
        site_of (Site s k) = s.0
        site_of (Fec n) = 0

        number_of : Bind → ℕ
        number_of (Site s k) = k
        number_of (Fec n) = 0

    by : (b : Bool) → In (if b then attachment_of s.0 (c.attaches s.0 + 2) ∷ [] else []) bind →
        IsLater c bind × ((site number : ℕ) → bind ≡ attachment_of site number → number < (config_after c (Attach s)).attaches site + 2)
    by false i = absurd i
    by true (inr i) = absurd i
    by true (inl e) = (
      record { site = s.0; number = c.attaches s.0 + 2; is = sym e; late = omega arith },
      λ site number q. few site number (e ∙ q),
    )
step_later t node c _ bind i = absurd i

from_later : (t : Network) (node : ℕ) (c : Config) (es : List JournalEntry) (bind : Bind) → In (attachments_from t node c es) bind → IsLater c bind
from_later t node c [] bind i = absurd i
from_later t node c (e ∷ es) bind i = elim (in_append (attachments_by t node c e.step) _ bind i) [
  | inl j ↦ (step_later t node c e.step bind j).0
  | inr j ↦ (let l = from_later t node (config_after c e.step) es bind j in
      record { site = l.site; number = l.number; is = l.is; late = omega (arith, l.late, attaches_grow c e.step l.site) })
]

step_apart : (t : Network) (node : ℕ) (c : Config) (s : Step) → AreApart Alike (attachments_by t node c s)
step_apart t node c (Attach s) = by (home_of t s.0 == node)
  where
    by : (b : Bool) → AreApart Alike (if b then attachment_of s.0 (c.attaches s.0 + 2) ∷ [] else [])
    by true = (λ y i a. absurd i, tt)
    by false = tt
step_apart t node c _ = tt

-- of two attachments that are alike the numbers are the same
numbers_one : (s k r i : ℕ) → Alike (attachment_of s k) (attachment_of r i) → (r ≡ s) × (i ≡ k)
numbers_one s k r i a = (same_numbers r s (and_left (r == s) (i == k) a), same_numbers i k (and_right (r == s) (i == k) a))

from_apart : (t : Network) (node : ℕ) (c : Config) (es : List JournalEntry) → AreApart Alike (attachments_from t node c es)
from_apart t node c [] = tt
from_apart t node c (e ∷ es) =
    append_apart (attachments_by t node c e.step) (attachments_from t node (config_after c e.step) es) (step_apart t node c e.step)
    (from_apart t node (config_after c e.step) es)
    (λ x y i j a. apart x y (step_later t node c e.step x i) (from_later t node (config_after c e.step) es y j) a)
  where
    apart : (x y : Bind) → IsLater c x × ((site number : ℕ) → x ≡ attachment_of site number → number < (config_after c e.step).attaches site + 2) →
        IsLater (config_after c e.step) y → Alike x y → ⊥
    apart x y h l a =
        let same = numbers_one h.0.site h.0.number l.site l.number
        (subst (λ u. Alike u (attachment_of l.site l.number)) h.0.is (subst (λ v. Alike x v) l.is a)) in
        let low : h.0.number < (config_after c e.step).attaches h.0.site + 2 = h.1 h.0.site h.0.number h.0.is in
        let high : (config_after c e.step).attaches h.0.site + 2 ≤ l.number = subst (λ s. (config_after c e.step).attaches s + 2 ≤ l.number) same.0 l.late in
        omega (arith, low, high, same.1)

apart_first : (t : Network) (es : List JournalEntry) (node : ℕ) → AreApart Alike (attachments_first t node ++ attachments_from t node (first_config t) es)
apart_first t es node =
    append_apart (attachments_first t node) (attachments_from t node (first_config t) es) (first_apart t node) (from_apart t node (first_config t) es)
    (λ x y i j a. across x y (in_map (λ site. attachment_of site 1) _ x i) (from_later t node (first_config t) es y j) a)
  where
    late : (s k : ℕ) → (first_config t).attaches s + 2 ≤ k → k ≡ 1 → ⊥
    late s k h e = omega (arith, h, e)

    across : (x y : Bind) → (n : ℕ) × In (sites_at t node) n × (attachment_of n 1 ≡ x) → IsLater (first_config t) y → Alike x y → ⊥
    across x y f l a =
        let same = numbers_one f.0 1 l.site l.number (subst (λ u. Alike u (attachment_of l.site l.number)) (sym f.2) (subst (λ v. Alike x v) l.is a)) in
        late l.site l.number l.late same.1

-- 3. So what was given to an attachment is its label

among : (gs : List Given) (g : Given) → In gs g → is_attachment g.what ≡ true → In (attachments_given gs) g.what
among gs g i at = map_in (λ (x : Given). x.what) (filter (λ (x : Given). is_attachment x.what) gs) g (filter_in (λ (x : Given). is_attachment x.what) gs g i at)

label_of_one : (gs : List Given) (label s k : ℕ) → AreApart Alike (attachments_given gs) → In gs (record { label = label; what = attachment_of s k }) →
    label_given (attachment_of s k) gs ≡ label
label_of_one [] label s k apart i = absurd i
label_of_one (g ∷ gs) label s k apart i = by (is_attachment g.what) (same_bind (attachment_of s k) g.what) refl refl apart i (label_of_one gs label s k)
  where
    one : Given
    one = record { label = label; what = attachment_of s k }

    none : (b : Bool) → is_attachment g.what ≡ false → same_bind (attachment_of s k) g.what ≡ true → ⊥
    none b at e = no (sym at ∙ ap is_attachment (same_is (attachment_of s k) g.what e))

    by : (a b : Bool) → is_attachment g.what ≡ a → same_bind (attachment_of s k) g.what ≡ b →
        AreApart Alike (map (λ (x : Given). x.what)
        (cond a (g ∷ filter (λ (x : Given). is_attachment x.what) gs) (filter (λ (x : Given). is_attachment x.what) gs))) →
        (g ≡ record { label = label; what = attachment_of s k }) ⊎ In gs (record { label = label; what = attachment_of s k }) →
        (AreApart Alike (attachments_given gs) → In gs (record { label = label; what = attachment_of s k }) → label_given (attachment_of s k) gs ≡ label) →
        cond b g.label (label_given (attachment_of s k) gs) ≡ label
    by a true at e h (inl q) more = ap (λ (x : Given). x.label) q
    by a false at e h (inl q) more = absurd (no (sym e ∙ ap (λ (x : Given). same_bind (attachment_of s k) x.what) q ∙ same_itself (attachment_of s k)))
    by true true at e h (inr j) more = absurd (h.0 (attachment_of s k) (among gs one j refl) e)
    by false true at e h (inr j) more = absurd (none true at e)
    by true false at e h (inr j) more = more h.1 j
    by false false at e h (inr j) more = more h j

pub has_its_label : (t : Network) (es : List JournalEntry) (node label s k : ℕ) →
    In (given t es node).given (record { label = label; what = attachment_of s k }) →
    label_in (given t es node) (attachment_of s k) ≡ label
has_its_label t es node label s k i =
    label_of_one (given t es node).given label s k (subst (AreApart Alike) (sym (journal_gives t es node)) (apart_first t es node)) i
