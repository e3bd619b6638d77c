-- A node gives each attachment one label.
use Rattle.std.proofs.Common.{ℕ, zero, suc, ◌≡◌, ◌+◌, ◌≤◌, inl, inr, Bool, true, false, cond, List, [], ◌∷◌, ◌++◌, map, filter, length, refl, arith, sym, ◌∙◌}
use Rattle.std.proofs.Common.{ap, subst}
use Rattle.std.specs.Prelude.{◌==◌, if◌then◌else◌, ⊤}
use Rattle.std.specs.List.{range_with_len}
use Rattle.std.proofs.lemmas.Bool.Decides.{eqb_tells}
use Rattle.mn_base.proofs.Bools.{clash}
use Rattle.mn_base.proofs.Members.{In, in_append, in_map, map_in, in_filter, filter_in, in_range}
use Rattle.mn_labels.specs.declared.meaning.Bind.{Bind}
use Rattle.mn_labels.specs.declared.meaning.Bind.TheVariants.{Fec, Site}
use Rattle.mn_labels.specs.declared.meaning.Given.{Given}
use Rattle.mn_labels.specs.Labels.{is_attachment, attachment_of}
use Rattle.mn_topo.specs.Network.{Network}
use Rattle.mn_topo.specs.declared.steps.Step.{Step}
use Rattle.mn_topo.specs.declared.steps.Step.TheVariants.{Attach}
use Rattle.mn_topo.specs.declared.steps.JournalEntry.{JournalEntry}
use Rattle.mn_ledger.specs.Tables.{put}
use Rattle.mn_ledger.specs.Places.{home_of, sites_at}
use Rattle.mn_ledger.specs.World.{Config}
use Rattle.mn_ledger.specs.Ledger.{config_after, first_config}
use Rattle.mn_ledger.proofs.GoingBy.{put_here, put_off}
use Rattle.mn_frame_laws.specs.Given.{label_given, given}
use Rattle.mn_frame_laws.proofs.Bridge.{attachments_first, attachments_by, attachments_from, attachments_given, journal_gives, given_fit, in_has}
use Rattle.mn_frame_laws.proofs.Labels.{given_at}

-- 1. Lists in which nothing comes twice

abbrev Once : {A : Type 0} → List A → Type 0
Once [] = ⊤
Once (x ∷ xs) = (In xs x → ⊥) × Once xs

once-append : {A : Type 0} (xs ys : List A) → Once xs → Once ys → ((x : A) → In xs x → In ys x → ⊥) → Once (xs ++ ys)
once-append [] ys f g apart = g
once-append (x ∷ xs) ys f g apart = (
  λ i. elim (in_append xs ys x i) [ inl j ↦ f.0 j | inr j ↦ apart x (inl refl) j ],
  once-append xs ys f.1 g (λ y i j. apart y (inr i) j),
)

once-filter : (p : ℕ → Bool) (xs : List ℕ) → Once xs → Once (filter p xs)
once-filter p [] f = tt
once-filter p (x ∷ xs) f = by (p x) (once-filter p xs f.1)
  where
    by : (b : Bool) → Once (filter p xs) → Once (cond b (x ∷ filter p xs) (filter p xs))
    by true rest = ((λ i. f.0 (in_filter p xs x i).0), rest)
    by false rest = rest

once-range : (a n : ℕ) → Once (range_with_len a n)
once-range a zero = tt
once-range a (suc n) = ((λ i. past (in_range (a + 1) n a i).0), once-range (a + 1) n)
  where
    past : a + 1 ≤ a → ⊥
    past h = omega (arith, h)

abbrev site_is : Bind → ℕ
site_is (Fec node) = 0
site_is (Site site number) = site.0

abbrev number_is : Bind → ℕ
number_is (Fec node) = 0
number_is (Site site number) = number

once-sites : (xs : List ℕ) → Once xs → Once (map (λ site. attachment_of site 1) xs)
once-sites [] f = tt
once-sites (x ∷ xs) f = (
  λ i. (let g = in_map (λ site. attachment_of site 1) xs (attachment_of x 1) i in f.0 (subst (In xs) (ap site_is g.2) g.1)),
  once-sites xs f.1,
)

-- 2. The attachments of a journal

-- it is a later one of a site than those that there were
abbrev IsLate : Config → Bind → Type 0
IsLate c b = (site : ℕ) × (k : ℕ) × (b ≡ attachment_of site k) × (c.attaches site + 2 ≤ k)

grows : (c : Config) (s : Step) (site : ℕ) → c.attaches site ≤ (config_after c s).attaches site
grows c (Attach a) site = elim (eqb_tells site a.0) [
  | inl p ↦ (let e : put c.attaches a.0 (c.attaches a.0 + 1) site ≡ c.attaches site + 1 =
      ap (put c.attaches a.0 (c.attaches a.0 + 1)) p.1 ∙ put_here c.attaches a.0 (c.attaches a.0 + 1)
      ∙ ap (λ n. c.attaches n + 1) (sym p.1) in omega (arith, e))
  | inr p ↦ (let e : put c.attaches a.0 (c.attaches a.0 + 1) site ≡ c.attaches site = put_off c.attaches a.0 (c.attaches a.0 + 1) site p.1 in omega (arith, e))
]
grows c _ site = omega arith

late-by : (t : Network) (n : ℕ) (c : Config) (s : Step) (b : Bind) → In (attachments_by t n c s) b → IsLate c b
late-by t n c (Attach a) b i = by (home_of t a.0 == n) i
  where
    by : (x : Bool) → In (if x then attachment_of a.0 (c.attaches a.0 + 2) ∷ [] else []) b → IsLate c b
    by true (inl e) = (a.0, c.attaches a.0 + 2, sym e, omega arith)
    by true (inr none) = absurd none
    by false none = absurd none
late-by t n c _ b i = absurd i

late-from : (t : Network) (n : ℕ) (c : Config) (es : List JournalEntry) (b : Bind) → In (attachments_from t n c es) b → IsLate c b
late-from t n c [] b i = absurd i
late-from t n c (e ∷ es) b i = elim (in_append (attachments_by t n c e.step) (attachments_from t n (config_after c e.step) es) b i) [
  | inl j ↦ late-by t n c e.step b j
  | inr j ↦ (let l = late-from t n (config_after c e.step) es b j in (l.0, l.1, l.2, (let g = grows c e.step l.0 in omega (arith, g, l.3))))
]

-- the one of a step isn't among those of later steps
apart-by : (t : Network) (n : ℕ) (c : Config) (s : Step) (b : Bind) → In (attachments_by t n c s) b → IsLate (config_after c s) b → ⊥
apart-by t n c (Attach a) b i late = by (home_of t a.0 == n) i
  where
    by : (x : Bool) → In (if x then attachment_of a.0 (c.attaches a.0 + 2) ∷ [] else []) b → ⊥
    by true (inl e) =
        let same : attachment_of a.0 (c.attaches a.0 + 2) ≡ attachment_of late.0 late.1 = e ∙ late.2 in
        let name : a.0 ≡ late.0 = ap site_is same in
        let number : c.attaches a.0 + 2 ≡ late.1 = ap number_is same in
        let now : put c.attaches a.0 (c.attaches a.0 + 1) late.0 ≡ c.attaches a.0 + 1 =
        ap (put c.attaches a.0 (c.attaches a.0 + 1)) (sym name) ∙ put_here c.attaches a.0 (c.attaches a.0 + 1) in
        let high = late.3 in omega (arith, number, now, high)
    by true (inr none) = absurd none
    by false none = absurd none
apart-by t n c _ b i late = absurd i

once-by : (t : Network) (n : ℕ) (c : Config) (s : Step) → Once (attachments_by t n c s)
once-by t n c (Attach a) = by (home_of t a.0 == n)
  where
    by : (x : Bool) → Once (if x then attachment_of a.0 (c.attaches a.0 + 2) ∷ [] else [])
    by true = ((λ none. absurd none), tt)
    by false = tt
once-by t n c _ = tt

once-from : (t : Network) (n : ℕ) (c : Config) (es : List JournalEntry) → Once (attachments_from t n c es)
once-from t n c [] = tt
once-from t n c (e ∷ es) =
    once-append (attachments_by t n c e.step) (attachments_from t n (config_after c e.step) es) (once-by t n c e.step)
    (once-from t n (config_after c e.step) es)
    (λ b i j. apart-by t n c e.step b i (late-from t n (config_after c e.step) es b j))

once-all : (t : Network) (es : List JournalEntry) (n : ℕ) → Once (attachments_given (given t es n).given)
once-all t es n =
    subst Once (sym (journal_gives t es n))
    (once-append (attachments_first t n) (attachments_from t n (first_config t) es)
    (once-sites (sites_at t n) (once-filter (λ s. home_of t s == n) (range_with_len 0 (length t.sites)) (once-range 0 (length t.sites))))
    (once-from t n (first_config t) es) (λ b i j.
    let f = in_map (λ site. attachment_of site 1) (sites_at t n) b i in
    let l = late-from t n (first_config t) es b j in
    high ((first_config t).attaches l.0) l.1 l.3 (ap number_is (sym l.2 ∙ sym f.2))))
  where
    high : (a k : ℕ) → a + 2 ≤ k → k ≡ 1 → ⊥
    high a k h e = omega (arith, h, e)

-- 3. Labels

is_given : (gs : List Given) (g : Given) → In gs g → is_attachment g.what ≡ true → In (attachments_given gs) g.what
is_given gs g i at = map_in (λ (x : Given). x.what) (filter (λ (x : Given). is_attachment x.what) gs) g
    (filter_in (λ (x : Given). is_attachment x.what) gs g i at)

one-given : (gs : List Given) → Once (attachments_given gs) → (g h : Given) → In gs g → In gs h → is_attachment g.what ≡ true → g.what ≡ h.what → g ≡ h
one-given [] once g h i j at same = absurd i
one-given (x ∷ xs) once g h i j at same =
    by (λ f. one-given xs f g h) (is_attachment x.what) refl once i j
  where
    by : (Once (attachments_given xs) → In xs g → In xs h → is_attachment g.what ≡ true → g.what ≡ h.what → g ≡ h) → (b : Bool) → is_attachment x.what ≡ b →
        Once (map (λ (y : Given). y.what) (cond b (x ∷ filter (λ (y : Given). is_attachment y.what) xs) (filter (λ (y : Given). is_attachment y.what) xs))) →
        In (x ∷ xs) g → In (x ∷ xs) h → g ≡ h
    by more b e f (inl p) (inl q) = sym p ∙ q
    by more true e f (inr p) (inr q) = more f.1 p q at same
    by more false e f (inr p) (inr q) = more f p q at same
    by more true e f (inl p) (inr q) =
        absurd (f.0 (subst (In (attachments_given xs)) (sym same ∙ ap (λ (y : Given). y.what) (sym p)) (is_given xs h q (ap is_attachment (sym same) ∙ at))))
    by more true e f (inr p) (inl q) = absurd (f.0 (subst (In (attachments_given xs)) (same ∙ ap (λ (y : Given). y.what) (sym q)) (is_given xs g p at)))
    by more false e f (inl p) (inr q) = absurd (clash (sym at ∙ ap (λ (y : Given). is_attachment y.what) (sym p) ∙ e))
    by more false e f (inr p) (inl q) = absurd (clash (sym at ∙ ap is_attachment same ∙ ap (λ (y : Given). is_attachment y.what) (sym q) ∙ e))

-- the label that an attachment was given is the one that it has
pub one-label : (t : Network) (es : List JournalEntry) (n label site k : ℕ) → In (given t es n).given (record { label = label; what = attachment_of site k }) →
    (label_given (attachment_of site k) (given t es n).given ≡ label) × (16 ≤ label_given (attachment_of site k) (given t es n).given)
one-label t es n label site k i =
    let gs : List Given = (given t es n).given in
    let had : 16 ≤ label_given (attachment_of site k) gs =
    in_has gs site k (given_fit t es n).reserved (is_given gs (record { label = label; what = attachment_of site k }) i refl) in (
      ap (λ (g : Given). g.label) (one-given gs (once-all t es n) (record { label = label_given (attachment_of site k) gs; what = attachment_of site k })
          (record { label = label; what = attachment_of site k }) (given_at (attachment_of site k) gs had) i refl refl),
      had,
    )
