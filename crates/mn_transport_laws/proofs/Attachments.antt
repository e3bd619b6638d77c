-- How many attachments of a site have labels: one more than it was attached anew, whatever the journal.
use Rattle.std.proofs.Common.{ℕ, zero, suc, ◌≡◌, ◌+◌, ◌<◌, ◌≤◌, inl, inr, Bool, true, false, cond, List, [], ◌∷◌, ◌++◌, length, map, filter, refl}
use Rattle.std.proofs.Common.{arith, sym, ◌∙◌, ap, subst, Some}
use Rattle.std.specs.Prelude.{◌==◌, if◌then◌else◌}
use Rattle.std.specs.List.{range_with_len}
use Rattle.std.proofs.lemmas.Bool.Decides.{eqb_tells}
use Rattle.std.proofs.lemmas.List.{length-append}
use Rattle.std.proofs.lemmas.List.Elements.{filter-append}
use Rattle.mn_base.proofs.Bools.{same_test, other_test}
use Rattle.mn_base.proofs.Members.{In, in_filter, in_range}
use Rattle.mn_labels.specs.declared.meaning.Bind.{Bind}
use Rattle.mn_labels.specs.declared.meaning.Bind.TheVariants.{Fec, Site}
use Rattle.mn_labels.specs.declared.meaning.Given.{Given}
use Rattle.mn_topo.specs.Network.{Network}
use Rattle.mn_topo.specs.declared.steps.Step.{Step}
use Rattle.mn_topo.specs.declared.steps.Step.TheVariants.{Attach}
use Rattle.mn_topo.specs.declared.steps.JournalEntry.{JournalEntry}
use Rattle.mn_ledger.specs.Tables.{put}
use Rattle.mn_ledger.specs.Places.{home_of}
use Rattle.mn_ledger.specs.World.{World, Config}
use Rattle.mn_ledger.specs.Ledger.{config_after, first_config, after, start, world_from, world_of}
use Rattle.mn_ledger.proofs.Parts.{last_steps_decide}
use Rattle.mn_frame_laws.specs.Given.{attachment_of, given}
use Rattle.mn_frame_laws.specs.Attached.{IsAttachmentAt}
use Rattle.mn_frame_laws.proofs.Bridge.{attachments_first, attachments_by, attachments_from, attachments_given, journal_gives}
use Rattle.mn_lsr.specs.Standing.{is_of, attachments}

-- 1. How many of a site are among what was given

abbrev pub count : ℕ → List Bind → ℕ
count site things = length (filter (is_of site) things)

of-given : (site label : ℕ) (what : Bind) (gs : List Given) → attachments site gs ≡ count site (attachments_given gs) →
    attachments site (record { label = label; what = what } ∷ gs) ≡ count site (attachments_given (record { label = label; what = what } ∷ gs))
of-given site label (Fec fec) gs rest = rest
of-given site label (Site other number) gs rest = by (other.0 == site)
  where
    by : (b : Bool) → length (cond b (record { label = label; what = Site other number } ∷ filter (λ giving. is_of site giving.what) gs)
        (filter (λ giving. is_of site giving.what) gs))
        ≡ length (cond b (Site other number ∷ filter (is_of site) (attachments_given gs)) (filter (is_of site) (attachments_given gs)))
    by true = omega (arith, rest)
    by false = rest

in-given : (site : ℕ) (gs : List Given) → attachments site gs ≡ count site (attachments_given gs)
in-given site [] = refl
in-given site (g ∷ gs) = of-given site g.label g.what gs (in-given site gs)

more : (site : ℕ) (xs ys : List Bind) → count site (xs ++ ys) ≡ count site xs + count site ys
more site xs ys = ap length (filter-append (is_of site) xs ys) ∙ length-append (filter (is_of site) xs) (filter (is_of site) ys)

of-others : (site : ℕ) (sites : List ℕ) → (In sites site → ⊥) → count site (map (λ s. attachment_of s 1) sites) ≡ 0
of-others site [] none = refl
of-others site (s ∷ sites) none = let other : (s == site) ≡ false = other_test s site (λ e. none (inl e)) in rw other (of-others site sites (λ i. none (inr i)))

of-one : (p : ℕ → Bool) (site n a : ℕ) → p site ≡ true → a ≤ site → site < a + n →
    count site (map (λ s. attachment_of s 1) (filter p (range_with_len a n))) ≡ 1
of-one p site zero a is h g = absurd (none h g)
  where
    none : a ≤ site → site < a + 0 → ⊥
    none h g = omega (arith, h, g)
of-one p site (suc n) a is h g = elim (eqb_tells a site) [
  | inl q ↦ (let here : p a ≡ true = subst (λ x. p x ≡ true) (sym q.1) is in
      let rest : count site (map (λ s. attachment_of s 1) (filter p (range_with_len (a + 1) n))) ≡ 0 =
      of-others site (filter p (range_with_len (a + 1) n)) (λ i. past (in_range (a + 1) n site (in_filter p (range_with_len (a + 1) n) site i).0).0 q.1) in
      rw (here, q.0) (omega (arith, rest)))
  | inr q ↦ (let rest = of-one p site n (a + 1) is (omega (arith, h, q.1)) (omega (arith, g)) in either (p a) q.0 rest)
]
  where
    past : a + 1 ≤ site → a ≡ site → ⊥
    past h e = omega (arith, h, e)

    either : (b : Bool) → (a == site) ≡ false → count site (map (λ s. attachment_of s 1) (filter p (range_with_len (a + 1) n))) ≡ 1 →
        count site (map (λ s. attachment_of s 1) (cond b (a ∷ filter p (range_with_len (a + 1) n)) (filter p (range_with_len (a + 1) n)))) ≡ 1
    either true e rest = rw e rest
    either false e rest = rest

-- 2. A step, and a journal

in-step : (t : Network) (c : Config) (step : Step) (site : ℕ) →
    count site (attachments_by t (home_of t site) c step) + c.attaches site ≡ (config_after c step).attaches site
in-step t c (Attach s) site = elim (eqb_tells site s.0) [
  | inl q ↦ (let home : (home_of t s.0 == home_of t site) ≡ true = ap (λ x. home_of t s.0 == home_of t x) q.1 ∙ same_test (home_of t s.0) in
      let one : (s.0 == site) ≡ true = ap (λ x. s.0 == x) q.1 ∙ same_test s.0 in
      let same : c.attaches site ≡ c.attaches s.0 = ap c.attaches q.1 in
      rw (home, one, q.0) (omega (arith, same)))
  | inr q ↦ (let other : (s.0 == site) ≡ false = other_test s.0 site (λ e. q.1 (sym e)) in
      let here : put c.attaches s.0 (c.attaches s.0 + 1) site ≡ c.attaches site = rw q.0 refl in
      either (home_of t s.0 == home_of t site) other here)
]
  where
    either : (b : Bool) → (s.0 == site) ≡ false → put c.attaches s.0 (c.attaches s.0 + 1) site ≡ c.attaches site →
        count site (if b then attachment_of s.0 (c.attaches s.0 + 2) ∷ [] else []) + c.attaches site ≡ put c.attaches s.0 (c.attaches s.0 + 1) site
    either true e same = rw e (omega (arith, same))
    either false e same = omega (arith, same)
in-step t c _ site = omega arith

in-journal : (t : Network) (es : List JournalEntry) (w : World) (site : ℕ) →
    count site (attachments_from t (home_of t site) w.config es) + w.config.attaches site ≡ (world_from t w es).config.attaches site
in-journal t [] w site = omega arith
in-journal t (e ∷ es) w site =
    let one = in-step t w.config e.step site in
    let rest = in-journal t es (after t w e.step) site in
    let both = more site (attachments_by t (home_of t site) w.config e.step) (attachments_from t (home_of t site) (config_after w.config e.step) es) in
    omega (arith, one, rest, both)

-- the next attachment's number is one more than there are labels for
pub counted : (t : Network) (es : List JournalEntry) (site : ℕ) → site < length t.sites →
    attachments site (given t es (home_of t site)).given ≡ (world_of t es).config.attaches site + 1
counted t es site h =
    let home : ℕ = home_of t site in
    let all = in-given site (given t es home).given ∙ ap (count site) (journal_gives t es home) in
    let one = of-one (λ s. home_of t s == home) site (length t.sites) 0 (same_test home) (omega arith) (omega (arith, h)) in
    let later = in-journal t es (start t) site in
    let both = more site (attachments_first t home) (attachments_from t home (first_config t) es) in
    omega (arith, all, one, later, both)

-- 3. The present one

pub present : (t : Network) (es : List JournalEntry) (site attachment : ℕ) → site < length t.sites → (world_of t es).config.attached site ≡ Some attachment →
    IsAttachmentAt t (world_of t es).config (home_of t site) site attachment
present t es site attachment h at =
    let by = last_steps_decide t es in
    let number = by.attachment site attachment at in
    let count = by.attaches site in
    record { home = refl; there = h; first = omega (arith, number); last = omega (arith, number, count) }
