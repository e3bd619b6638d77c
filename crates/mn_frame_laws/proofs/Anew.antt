-- Which attachments have labels: those of the start, and one more for each site that is attached anew.
use Rattle.std.proofs.Common.{ℕ, ◌≡◌, ◌≢◌, ◌+◌, ◌<◌, ◌≤◌, ◌⊎◌, inl, inr, Bool, true, false, List, [], ◌∷◌, ◌++◌, map, filter, length}
use Rattle.std.proofs.Common.{refl, arith, sym, ◌∙◌, ap, subst}
use Rattle.std.specs.Prelude.{◌==◌, if◌then◌else◌}
use Rattle.std.specs.List.{range_with_len}
use Rattle.std.proofs.lemmas.Bool.Decides.{nat_tests, eqb_tells}
use Rattle.mn_base.proofs.Bools.{same_test, same_numbers}
use Rattle.mn_base.proofs.Members.{map_in, range_in}
use Rattle.mn_labels.specs.declared.meaning.Bind.{Bind}
use Rattle.mn_labels.specs.declared.meaning.Bind.TheVariants.{Fec, Site}
use Rattle.mn_topo.specs.Network.{Network}
use Rattle.mn_topo.specs.Steps.{fits}
use Rattle.mn_topo.specs.declared.steps.Step.{Step}
use Rattle.mn_topo.specs.declared.steps.Step.TheVariants.{Attach}
use Rattle.mn_topo.specs.declared.steps.JournalEntry.{JournalEntry}
use Rattle.mn_ledger.specs.Tables.{put}
use Rattle.mn_ledger.specs.Places.{home_of, sites_at}
use Rattle.mn_ledger.specs.World.{World, Config}
use Rattle.mn_ledger.specs.Packets.{Packets}
use Rattle.mn_ledger.specs.Lawful.{IsLawfulFrom, IsLawfulJournal}
use Rattle.mn_ledger.specs.Ledger.{config_after, first_config, after, start, no_packets, world_from, world_of, next_of, left_by, packets_by}
use Rattle.mn_ledger.specs.Time.{clock_after}
use Rattle.mn_ledger.proofs.Members.{In, in_append, in_front, in_rest, in_map, in_filter, filter_in, in_range}
use Rattle.mn_ledger_laws.proofs.Announced.{attaches_grow}
use Rattle.mn_frame_laws.specs.Given.{attachment_of, given, HasLabel}
use Rattle.mn_frame_laws.specs.Attached.{IsAttachmentAt, GivesToEach, GivesToNoOther}
use Rattle.mn_frame_laws.proofs.Bridge.{attachments_first, attachments_by, attachments_from, journal_gives, given_fit, in_has, has_in}

abbrev pub site_of : Bind → ℕ
site_of (Fec node) = 0
site_of (Site site number) = site.0

abbrev pub number_of : Bind → ℕ
number_of (Fec node) = 0
number_of (Site site number) = number

-- 1. Attachments are counted up

grows : (t : Network) (entries : List JournalEntry) (w : World) (site : ℕ) → w.config.attaches site ≤ (world_from t w entries).config.attaches site
grows t [] w site = omega arith
grows t (e ∷ es) w site = omega (arith, attaches_grow w.config e.step site, grows t es (after t w e.step) site)

-- 2. Each has a label

attached_anew : (t : Network) (c : Config) (site k : ℕ) → c.attaches site + 2 ≤ k →
    ((c.attaches site + 1) + 2 ≤ k) ⊎ In (if home_of t site == home_of t site then attachment_of site (c.attaches site + 2) ∷ [] else []) (attachment_of site k)
attached_anew t c site k h = elim (eqb_tells k (c.attaches site + 2)) [
  | inl q ↦ (let here : (home_of t site == home_of t site) ≡ true = same_test (home_of t site) in inr (rw here (inl (ap (attachment_of site) (sym q.1)))))
  | inr q ↦ inl (omega (arith, h, q.1))
]

given_later : (t : Network) (c : Config) (step : Step) (site k : ℕ) → c.attaches site + 2 ≤ k →
    ((config_after c step).attaches site + 2 ≤ k) ⊎ In (attachments_by t (home_of t site) c step) (attachment_of site k)
given_later t c (Attach s) site k h = elim (eqb_tells s.0 site) [
  | inl q ↦ elim (attached_anew t c site k h) [
    | inl more ↦ inl (subst (λ x. put c.attaches x (c.attaches x + 1) site + 2 ≤ k) (sym q.1)
        (let same : (site == site) ≡ true = same_test site in rw same more))
    | inr here ↦ inr (subst (λ x. In (if home_of t x == home_of t site then attachment_of x (c.attaches x + 2) ∷ [] else []) (attachment_of site k))
        (sym q.1) here)
  ]
  | inr q ↦ inl (let other : (site == s.0) ≡ false = apart q.1 in rw other h)
]
  where
    apart : s.0 ≢ site → (site == s.0) ≡ false
    apart d = grind (arith, nat_tests, d)
given_later t c _ site k h = inl h

from_has : (t : Network) (entries : List JournalEntry) (w : World) (site k : ℕ) →
    w.config.attaches site + 2 ≤ k → k ≤ (world_from t w entries).config.attaches site + 1 →
    In (attachments_from t (home_of t site) w.config entries) (attachment_of site k)
from_has t [] w site k h g = absurd (none h g)
  where
    none : w.config.attaches site + 2 ≤ k → k ≤ w.config.attaches site + 1 → ⊥
    none h g = omega (arith, h, g)
from_has t (e ∷ es) w site k h g = elim (given_later t w.config e.step site k h) [
  | inl later ↦ in_rest (attachments_by t (home_of t site) w.config e.step) _ (attachment_of site k) (from_has t es (after t w e.step) site k later g)
  | inr here ↦ in_front (attachments_by t (home_of t site) w.config e.step) _ (attachment_of site k) here
]

first_has : (t : Network) (site : ℕ) → site < length t.sites → In (attachments_first t (home_of t site)) (attachment_of site 1)
first_has t site h =
    map_in (λ s. attachment_of s 1) (sites_at t (home_of t site)) site
    (filter_in (λ s. home_of t s == home_of t site) (range_with_len 0 (length t.sites)) site
    (range_in 0 (length t.sites) site (omega arith) (omega (arith, h))) (same_test (home_of t site)))

is_among : (t : Network) (entries : List JournalEntry) (site k : ℕ) → IsAttachmentAt t (world_of t entries).config (home_of t site) site k →
    In (attachments_first t (home_of t site) ++ attachments_from t (home_of t site) (first_config t) entries) (attachment_of site k)
is_among t entries site k is = elim (eqb_tells k 1) [
  | inl q ↦ in_front (attachments_first t (home_of t site)) _ (attachment_of site k)
      (subst (λ n. In (attachments_first t (home_of t site)) (attachment_of site n)) (sym q.1) (first_has t site is.there))
  | inr q ↦ in_rest (attachments_first t (home_of t site)) _ (attachment_of site k)
      (from_has t entries (start t) site k (omega (arith, is.first, q.1)) is.last)
]

pub gives_to_each : GivesToEach
gives_to_each t entries site k is =
    in_has (given t entries (home_of t site)).given site k (given_fit t entries (home_of t site)).reserved
    (subst (λ xs. In xs (attachment_of site k)) (sym (journal_gives t entries (home_of t site))) (is_among t entries site k is))

-- 3. Nothing else has

step_only : (t : Network) (node : ℕ) (c : Config) (step : Step) (site k : ℕ) → fits t step ≡ true → In (attachments_by t node c step) (attachment_of site k) →
    (home_of t site ≡ node) × (site < length t.sites) × (c.attaches site + 2 ≤ k) × (k ≤ (config_after c step).attaches site + 1)
step_only t node c (Attach s) site k fit i = by (home_of t s.0 == node) refl i
  where
    by : (b : Bool) → (home_of t s.0 == node) ≡ b → In (if b then attachment_of s.0 (c.attaches s.0 + 2) ∷ [] else []) (attachment_of site k) →
        (home_of t site ≡ node) × (site < length t.sites) × (c.attaches site + 2 ≤ k) × (k ≤ put c.attaches s.0 (c.attaches s.0 + 1) site + 1)
    by false e i = absurd i
    by true e (inr i) = absurd i
    by true e (inl same) =
        let there : s.0 < length t.sites = grind (arith, nat_tests, fit) in
        let name : s.0 ≡ site = ap site_of same in
        let number : c.attaches s.0 + 2 ≡ k = ap number_of same in
        let now : put c.attaches s.0 (c.attaches s.0 + 1) s.0 ≡ c.attaches s.0 + 1 = (let one : (s.0 == s.0) ≡ true = same_test s.0 in rw one refl) in
        subst (λ x. (home_of t x ≡ node) × (x < length t.sites) × (c.attaches x + 2 ≤ k) × (k ≤ put c.attaches s.0 (c.attaches s.0 + 1) x + 1)) name
        (same_numbers (home_of t s.0) node e, there, omega (arith, number), omega (arith, number, now))
step_only t node c _ site k fit i = absurd i

from_only : (t : Network) (node tick : ℕ) (w : World) (packets : Packets) (count : ℕ) (entries : List JournalEntry) (inputs : List (List ℕ)) (site k : ℕ) →
    IsLawfulFrom t tick w packets count entries inputs → In (attachments_from t node w.config entries) (attachment_of site k) →
    (home_of t site ≡ node) × (site < length t.sites) × (w.config.attaches site + 2 ≤ k) × (k ≤ (world_from t w entries).config.attaches site + 1)
from_only t node tick w packets count [] inputs site k lawful i = absurd i
from_only t node tick w packets count (e ∷ es) inputs site k lawful i = elim (in_append (attachments_by t node w.config e.step) _ (attachment_of site k) i) [
  | inl j ↦ (let here = step_only t node w.config e.step site k lawful.0 j in
      (here.0, here.1, here.2, omega (arith, here.3, grows t es (after t w e.step) site)))
  | inr j ↦ (let later = from_only t node (clock_after e) (after t w e.step) (packets_by t (after t w e.step) packets e (next_of inputs)) (count + 1) es
      (left_by e.step inputs) site k lawful.3 j in
      (later.0, later.1, omega (arith, later.2, attaches_grow w.config e.step site), later.3))
]

first_only : (t : Network) (node site k : ℕ) → In (attachments_first t node) (attachment_of site k) →
    (home_of t site ≡ node) × (site < length t.sites) × (k ≡ 1)
first_only t node site k i =
    let f = in_map (λ s. attachment_of s 1) (sites_at t node) (attachment_of site k) i in
    let g = in_filter (λ s. home_of t s == node) (range_with_len 0 (length t.sites)) f.0 f.1 in
    let name : f.0 ≡ site = ap site_of f.2 in
    let below = in_range 0 (length t.sites) f.0 g.0 in
    (ap (home_of t) (sym name) ∙ same_numbers (home_of t f.0) node g.1, omega (arith, below.1, name), sym (ap number_of f.2))

only : (t : Network) (entries : List JournalEntry) (inputs : List (List ℕ)) (node site k : ℕ) → IsLawfulJournal t entries inputs →
    In (attachments_first t node ++ attachments_from t node (first_config t) entries) (attachment_of site k) →
    IsAttachmentAt t (world_of t entries).config node site k
only t entries inputs node site k lawful i = elim (in_append (attachments_first t node) _ (attachment_of site k) i) [
  | inl j ↦ (let f = first_only t node site k j in record { home = f.0; there = f.1; first = omega (arith, f.2); last = omega (arith, f.2) })
  | inr j ↦ (let f = from_only t node 0 (start t) no_packets 0 entries inputs site k lawful j in
      record { home = f.0; there = f.1; first = omega (arith, f.2); last = f.3 })
]

pub gives_to_no_other : GivesToNoOther
gives_to_no_other t entries inputs node site k lawful c =
    only t entries inputs node site k lawful
    (subst (λ xs. In xs (attachment_of site k)) (journal_gives t entries node) (has_in (given t entries node).given site k c))

-- 4. The next isn't given yet

step_number : (t : Network) (node : ℕ) (c : Config) (step : Step) (site k : ℕ) → In (attachments_by t node c step) (attachment_of site k) →
    k ≤ (config_after c step).attaches site + 1
step_number t node c (Attach s) site k i = by (home_of t s.0 == node) i
  where
    by : (b : Bool) → In (if b then attachment_of s.0 (c.attaches s.0 + 2) ∷ [] else []) (attachment_of site k) →
        k ≤ put c.attaches s.0 (c.attaches s.0 + 1) site + 1
    by false i = absurd i
    by true (inr i) = absurd i
    by true (inl same) =
        let name : s.0 ≡ site = ap site_of same in
        let number : c.attaches s.0 + 2 ≡ k = ap number_of same in
        let now : put c.attaches s.0 (c.attaches s.0 + 1) s.0 ≡ c.attaches s.0 + 1 = (let one : (s.0 == s.0) ≡ true = same_test s.0 in rw one refl) in
        subst (λ x. k ≤ put c.attaches s.0 (c.attaches s.0 + 1) x + 1) name (omega (arith, number, now))
step_number t node c _ site k i = absurd i

from_number : (t : Network) (node : ℕ) (w : World) (entries : List JournalEntry) (site k : ℕ) →
    In (attachments_from t node w.config entries) (attachment_of site k) →
    k ≤ (world_from t w entries).config.attaches site + 1
from_number t node w [] site k i = absurd i
from_number t node w (e ∷ es) site k i = elim (in_append (attachments_by t node w.config e.step) _ (attachment_of site k) i) [
  | inl j ↦ omega (arith, step_number t node w.config e.step site k j, grows t es (after t w e.step) site)
  | inr j ↦ from_number t node (after t w e.step) es site k j
]

pub never_given : (t : Network) (entries : List JournalEntry) (node site k : ℕ) → (world_of t entries).config.attaches site + 2 ≤ k →
    HasLabel (given t entries node) (attachment_of site k) → ⊥
never_given t entries node site k past had =
    elim (in_append (attachments_first t node) _ (attachment_of site k)
    (subst (λ xs. In xs (attachment_of site k)) (journal_gives t entries node) (has_in (given t entries node).given site k had))) [
      | inl j ↦ low _ k past (first_only t node site k j).2
      | inr j ↦ high _ k past (from_number t node (start t) entries site k j)
    ]
  where
    low : (a k : ℕ) → a + 2 ≤ k → k ≡ 1 → ⊥
    low a k h e = omega (arith, h, e)

    high : (a k : ℕ) → a + 2 ≤ k → k ≤ a + 1 → ⊥
    high a k h g = omega (arith, h, g)
