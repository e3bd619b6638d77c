-- How many attachments have labels of a node.
use Rattle.std.proofs.Common.{ℕ, zero, suc, ◌≡◌, ◌+◌, ◌<◌, ◌≤◌, inl, inr, Bool, true, false, not, cond, List, [], ◌∷◌, map, filter, length, refl}
use Rattle.std.proofs.Common.{arith, sym, ◌∙◌, ap, subst}
use Rattle.std.specs.Prelude.{◌==◌, sum, if◌then◌else◌}
use Rattle.std.specs.List.{range_with_len, sum_by}
use Rattle.std.proofs.lemmas.List.{length-append, length-map}
use Rattle.std.proofs.lemmas.List.Sums.{sum_by-cons, sum-map}
use Rattle.std.proofs.lemmas.Bool.Decides.{nat_tests, eqb_tells}
use Rattle.mn_topo.specs.Network.{Network}
use Rattle.mn_topo.specs.Steps.{fits}
use Rattle.mn_topo.specs.declared.steps.Step.{Step}
use Rattle.mn_topo.specs.declared.steps.Step.TheVariants.{Attach}
use Rattle.mn_topo.specs.declared.steps.JournalEntry.{JournalEntry}
use Rattle.mn_labels.specs.declared.meaning.Bind.{Bind}
use Rattle.mn_labels.specs.declared.meaning.Given.{Given}
use Rattle.mn_labels.specs.Labels.{is_attachment}
use Rattle.mn_ledger.specs.Tables.{put}
use Rattle.mn_ledger.specs.Places.{home_of, sites_at}
use Rattle.mn_ledger.specs.World.{World, Config}
use Rattle.mn_ledger.specs.Verdicts.{one_if}
use Rattle.mn_ledger.specs.Lawful.{IsLawfulFrom}
use Rattle.mn_ledger.specs.Packets.{Packets}
use Rattle.mn_ledger.specs.Ledger.{config_after, first_config, after, start, no_packets, world_from, world_of, next_of, left_by, packets_by}
use Rattle.mn_frame_laws.specs.Given.{given, attachment_of}
use Rattle.mn_frame_laws.specs.Laws.{AsManyGiven}
use Rattle.mn_frame_laws.proofs.Bridge.{attachments_by, attachments_from, journal_gives as attachments_are}
use Rattle.mn_ledger.specs.Time.{clock_after}

-- 1. Over the sites of a node

pub total : (ℕ → ℕ) → List ℕ → ℕ
total f [] = 0
total f (x ∷ xs) = f x + total f xs

pub total_is : (f : ℕ → ℕ) (xs : List ℕ) → sum (map f xs) ≡ total f xs
unfolding total
total_is f xs = sum-map f xs ∙ by xs
  where
    by : (xs : List ℕ) → sum_by f xs ≡ total f xs
    by [] = refl
    by (x ∷ xs) = sum_by-cons f x xs ∙ ap (λ n. f x + n) (by xs)

put_past : (p : ℕ → Bool) (f : ℕ → ℕ) (s v n a : ℕ) → s < a → total (put f s v) (filter p (range_with_len a n)) ≡ total f (filter p (range_with_len a n))
unfolding total
put_past p f s v zero a h = refl
put_past p f s v (suc n) a h =
    let other : (a == s) ≡ false = grind (arith, nat_tests, h) in
    either (p a) (put_past p f s v n (a + 1) (omega (arith, h))) (rw other refl)
  where
    either : (b : Bool) → total (put f s v) (filter p (range_with_len (a + 1) n)) ≡ total f (filter p (range_with_len (a + 1) n)) → put f s v a ≡ f a →
        total (put f s v) (cond b (a ∷ filter p (range_with_len (a + 1) n)) (filter p (range_with_len (a + 1) n)))
        ≡ total f (cond b (a ∷ filter p (range_with_len (a + 1) n)) (filter p (range_with_len (a + 1) n)))
    either true e q = omega (arith, e, q)
    either false e q = e

put_within : (p : ℕ → Bool) (f : ℕ → ℕ) (s n a : ℕ) → a ≤ s → s < a + n →
    total (put f s (f s + 1)) (filter p (range_with_len a n)) ≡ one_if (p s) + total f (filter p (range_with_len a n))
unfolding total
put_within p f s zero a h g = absurd (none h g)
  where
    none : a ≤ s → s < a + 0 → ⊥
    none h g = omega (arith, h, g)
put_within p f s (suc n) a h g =
    elim (eqb_tells a s) [
      | inl q ↦ (let past = put_past p f s (f s + 1) n (a + 1) (omega (arith, q.1)) in
          let here : put f s (f s + 1) a ≡ f a + 1 = rw (q.0, q.1) refl in
          subst (λ x. total (put f s (f s + 1)) (filter p (range_with_len a (suc n))) ≡ one_if (p x) + total f (filter p (range_with_len a (suc n)))) q.1
          (same (p a) past here))
      | inr q ↦ (let later = put_within p f s n (a + 1) (omega (arith, h, q.1)) (omega (arith, g)) in
          let here : put f s (f s + 1) a ≡ f a = rw q.0 refl in
          other (p a) later here)
    ]
  where
    same : (b : Bool) → total (put f s (f s + 1)) (filter p (range_with_len (a + 1) n)) ≡ total f (filter p (range_with_len (a + 1) n)) →
        put f s (f s + 1) a ≡ f a + 1 →
        total (put f s (f s + 1)) (cond b (a ∷ filter p (range_with_len (a + 1) n)) (filter p (range_with_len (a + 1) n)))
        ≡ one_if b + total f (cond b (a ∷ filter p (range_with_len (a + 1) n)) (filter p (range_with_len (a + 1) n)))
    same true e q = omega (arith, e, q)
    same false e q = omega (arith, e)

    other : (b : Bool) → total (put f s (f s + 1)) (filter p (range_with_len (a + 1) n)) ≡ one_if (p s) + total f (filter p (range_with_len (a + 1) n)) →
        put f s (f s + 1) a ≡ f a →
        total (put f s (f s + 1)) (cond b (a ∷ filter p (range_with_len (a + 1) n)) (filter p (range_with_len (a + 1) n)))
        ≡ one_if (p s) + total f (cond b (a ∷ filter p (range_with_len (a + 1) n)) (filter p (range_with_len (a + 1) n)))
    other true e q = omega (arith, e, q)
    other false e q = e

-- 2. A step, and a journal

one_given : (b : Bool) (x : Bind) → length (if b then x ∷ [] else []) ≡ one_if b
one_given true x = refl
one_given false x = refl

pub step_gives : (t : Network) (node : ℕ) (config : Config) (step : Step) → fits t step ≡ true →
    total (config_after config step).attaches (sites_at t node) ≡ length (attachments_by t node config step) + total config.attaches (sites_at t node)
step_gives t node config (Attach s) h =
    let there : s.0 < length t.sites = grind (arith, nat_tests, h) in
    put_within (λ x. home_of t x == node) config.attaches s.0 (length t.sites) 0 (omega arith) (omega (arith, there))
    ∙ ap (λ n. n + total config.attaches (sites_at t node)) (sym (one_given (home_of t s.0 == node) (attachment_of s.0 (config.attaches s.0 + 2))))
step_gives t node config _ h = omega arith

journal_gives : (t : Network) (node tick : ℕ) (w : World) (k : Packets) (count : ℕ) (entries : List JournalEntry) (inputs : List (List ℕ)) →
    IsLawfulFrom t tick w k count entries inputs →
    total (world_from t w entries).config.attaches (sites_at t node) ≡ length (attachments_from t node w.config entries) + total w.config.attaches
    (sites_at t node)
journal_gives t node tick w k count [] inputs lawful = omega arith
journal_gives t node tick w k count (e ∷ es) inputs lawful =
    let rest = journal_gives t node (clock_after e) (after t w e.step) (packets_by t (after t w e.step) k e (next_of inputs)) (count + 1) es
    (left_by e.step inputs) lawful.3 in
    let one = step_gives t node w.config e.step lawful.0 in
    let both = length-append (attachments_by t node w.config e.step) (attachments_from t node (config_after w.config e.step) es) in
    omega (arith, rest, one, both)

pub none_attached : (xs : List ℕ) → total (λ s. 0) xs ≡ 0
unfolding total
none_attached [] = refl
none_attached (x ∷ xs) = let rest = none_attached xs in omega (arith, rest)

-- 3. All of them

pub as_many_given : AsManyGiven
as_many_given t entries inputs node lawful =
    let ends = map (λ site. attachment_of site 1) (sites_at t node) in
    let named = length-map (filter (λ (g : Given). is_attachment g.what) (given t entries node).given) (λ (g : Given). g.what) in
    let all = ap length (attachments_are t entries node) in
    let one = length-append ends (attachments_from t node (first_config t) entries) in
    let four = length-map (sites_at t node) (λ site. attachment_of site 1) in
    let six = journal_gives t node 0 (start t) no_packets 0 entries inputs lawful in
    let seven = none_attached (sites_at t node) in
    let eight = total_is (world_of t entries).config.attaches (sites_at t node) in
    omega (arith, named, all, one, four, six, seven, eight)
