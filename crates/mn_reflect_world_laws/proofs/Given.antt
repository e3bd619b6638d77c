-- The labels of an edge's attachments differ, and one that is given stays.
use Rattle.std.proofs.Common.{ℕ, zero, suc, ◌≡◌, ◌≢◌, ◌+◌, ◌<◌, ◌≤◌, ◌⊎◌, ◌^◌, inl, inr, Bool, true, false, cond, List, [], ◌∷◌, map, filter, length}
use Rattle.std.proofs.Common.{refl, arith, sym, ◌∙◌, ap, subst}
use Rattle.std.specs.Prelude.{◌==◌, ◌&&◌, nat_lt, if◌then◌else◌, sum}
use Rattle.std.specs.List.{range_with_len}
use Rattle.std.proofs.lemmas.Bool.Decides.{eqb_tells}
use Rattle.mn_base.proofs.Bools.{no, same_test, other_test, not_at_most_tells, less_is, less_tells, less_itself, and_left, and_right, and_on}
use Rattle.mn_base.proofs.Members.{In, range_in}
use Rattle.mn_base.specs.declared.numbers.SiteNo.{SiteNo}
use Rattle.mn_topo.specs.Network.{Network}
use Rattle.mn_topo.specs.Lawful.{IsLawful}
use Rattle.mn_topo.specs.Steps.{fits}
use Rattle.mn_topo.specs.declared.steps.Step.{Step}
use Rattle.mn_topo.specs.declared.steps.Step.TheVariants as step
use Rattle.mn_ledger.specs.Tables.{put}
use Rattle.mn_ledger.specs.Places.{home_of, sites_at}
use Rattle.mn_ledger.specs.World.{Config}
use Rattle.mn_ledger.specs.Ledger.{first_config, config_after}
use Rattle.mn_ledger.specs.Refusal.{is_spent, labels_given}
use Rattle.mn_ledger.proofs.GoingBy.{put_here, put_off, pair_here, pair_off}
use Rattle.mn_frame_laws.specs.Given.{attachment_of}
use Rattle.mn_frame_laws.proofs.Bridge.{attachments_by}
use Rattle.mn_frame_laws.proofs.Spent.{total_is, step_gives, none_attached}
use Rattle.mn_bgp_spelling_laws.specs.Spelling.{Labels}
use Rattle.mn_bgp_spelling_laws.specs.Laws.{AreLabels}
use Rattle.mn_bgp_spelling_laws.proofs.Writable.{no_longer}
use Rattle.mn_reflect_world_laws.specs.Labels.{sites_before, first_labels, attachments_at, labels_after}

-- 1. Counts

more_pass : {A : Type 0} (p q : A → Bool) (xs : List A) → ((x : A) → p x ≡ true → q x ≡ true) → length (filter p xs) ≤ length (filter q xs)
more_pass p q [] h = omega arith
more_pass p q (x ∷ xs) h = by (p x) refl (q x) refl (more_pass p q xs h)
  where
    by : (b : Bool) → p x ≡ b → (c : Bool) → q x ≡ c → length (filter p xs) ≤ length (filter q xs) →
        length (cond b (x ∷ filter p xs) (filter p xs)) ≤ length (cond c (x ∷ filter q xs) (filter q xs))
    by true e true f more = omega (arith, more)
    by true e false f more = absurd (no (sym f ∙ h x e))
    by false e true f more = omega (arith, more)
    by false e false f more = more

-- one that passes the second test alone makes a difference
pub one_more_passes : {A : Type 0} (p q : A → Bool) (xs : List A) (y : A) → ((x : A) → p x ≡ true → q x ≡ true) → In xs y → p y ≡ false → q y ≡ true →
    length (filter p xs) < length (filter q xs)
one_more_passes p q [] y h i off on = absurd i
one_more_passes p q (x ∷ xs) y h i off on = by (p x) refl (q x) refl (λ j. one_more_passes p q xs y h j off on) (more_pass p q xs h)
  where
    by : (b : Bool) → p x ≡ b → (c : Bool) → q x ≡ c → (In xs y → length (filter p xs) < length (filter q xs)) →
        length (filter p xs) ≤ length (filter q xs) → length (cond b (x ∷ filter p xs) (filter p xs)) < length (cond c (x ∷ filter q xs) (filter q xs))
    by true e true f more few = elim i [
      | inl g ↦ absurd (no (sym off ∙ ap p (sym g) ∙ e))
      | inr j ↦ (let less = more j in omega (arith, less))
    ]
    by true e false f more few = absurd (no (sym f ∙ h x e))
    by false e true f more few = omega (arith, few)
    by false e false f more few = elim i [
      | inl g ↦ absurd (no (sym f ∙ ap q g ∙ on))
      | inr j ↦ more j
    ]

-- 2. Attachments that were made

pub record IsAttachment (t : Network) (c : Config) (site attachment : ℕ) : Type 0 where
  pub there : site < length t.sites
  pub first : 1 ≤ attachment
  pub given : attachment ≤ c.attaches site + 1

pub record AreGiven (t : Network) (c : Config) (l : Labels) : Type 0 where
  pub below : (site k : ℕ) → IsAttachment t c site k → l site k < 16 + attachments_at t c (home_of t site)
  pub apart : (site k other j : ℕ) → IsAttachment t c site k → IsAttachment t c other j → home_of t site ≡ home_of t other → l site k ≡ l other j →
      (site ≡ other) × (k ≡ j)
  pub fit : AreLabels l

-- 3. The start

first_number : (t : Network) (c : Config) (site k : ℕ) → c.attaches site ≡ 0 → IsAttachment t c site k → k ≡ 1
first_number t c site k none h = omega (arith, none, h.first, h.given)

pub nothing_yet : (xs : List ℕ) → sum (map (λ (s : ℕ). 0) xs) ≡ 0
nothing_yet xs = total_is (λ s. 0) xs ∙ none_attached xs

module _ (t : Network) where
  rank_less : (site other : ℕ) → site < length t.sites → site < other → home_of t site ≡ home_of t other → sites_before t site < sites_before t other
  rank_less site other there less same =
      one_more_passes (λ s. (home_of t s == home_of t site) && nat_lt s site) (λ s. (home_of t s == home_of t other) && nat_lt s other)
      (range_with_len 0 (length t.sites)) site
      (λ s h. and_on (home_of t s == home_of t other) (nat_lt s other)
      (subst (λ n. (home_of t s == n) ≡ true) same (and_left (home_of t s == home_of t site) (nat_lt s site) h))
      (less_is s other (later s (less_tells s site (and_right (home_of t s == home_of t site) (nat_lt s site) h)))))
      (range_in 0 (length t.sites) site (omega arith) (omega (arith, there)))
      (ap (λ b. (home_of t site == home_of t site) && b) (less_itself site) ∙ off (home_of t site == home_of t site))
      (and_on (home_of t site == home_of t other) (nat_lt site other) (subst (λ n. (home_of t site == n) ≡ true) same (same_test (home_of t site)))
      (less_is site other less))
    where
      later : (s : ℕ) → s < site → s < other
      later s h = omega (arith, h, less)

      off : (b : Bool) → (b && false) ≡ false
      off true = refl
      off false = refl

  rank_below : (site : ℕ) → site < length t.sites → sites_before t site < length (sites_at t (home_of t site))
  rank_below site there =
      one_more_passes (λ s. (home_of t s == home_of t site) && nat_lt s site) (λ s. home_of t s == home_of t site) (range_with_len 0 (length t.sites)) site
      (λ s h. and_left (home_of t s == home_of t site) (nat_lt s site) h) (range_in 0 (length t.sites) site (omega arith) (omega (arith, there)))
      (ap (λ b. (home_of t site == home_of t site) && b) (less_itself site) ∙ off (home_of t site == home_of t site))
      (same_test (home_of t site))
    where
      off : (b : Bool) → (b && false) ≡ false
      off true = refl
      off false = refl

  one_rank : (site other : ℕ) → site < length t.sites → other < length t.sites → home_of t site ≡ home_of t other →
      sites_before t site ≡ sites_before t other → site ≡ other
  one_rank site other there also same e = by ways
    where
      ways : (site < other) ⊎ ((other < site) ⊎ (site ≡ other))
      ways = grind arith

      by : (site < other) ⊎ ((other < site) ⊎ (site ≡ other)) → site ≡ other
      by (inl h) = (let less = rank_less site other there h same in absurd (omega (arith, less, e)))
      by (inr (inl h)) = (let less = rank_less other site also h (sym same) in absurd (omega (arith, less, e)))
      by (inr (inr h)) = h

length_numbers : (from size : ℕ) → length (range_with_len from size) ≡ size
length_numbers from zero = refl
length_numbers from (suc size) = ap suc (length_numbers (from + 1) size)

pub first_given : (t : Network) → IsLawful t → AreGiven t (first_config t) (first_labels t)
first_given t lawful = record {
  below = λ site k h. (let rank = rank_below t site h.there in let none = nothing_yet (sites_at t (home_of t site)) in omega (arith, rank, none));
  apart = λ site k other j h g same e. (
    one_rank t site other h.there g.there same (drop_16 (sites_before t site) (sites_before t other) e),
    first_number t (first_config t) site k refl h ∙ sym (first_number t (first_config t) other j refl g),
  );
  fit = λ site k.
      (let fewer : sites_before t site ≤ length (range_with_len 0 (length t.sites)) =
      no_longer (λ s. (home_of t s == home_of t site) && nat_lt s site) (range_with_len 0 (length t.sites)) in
      let few : length (range_with_len 0 (length t.sites)) ≡ length t.sites = length_numbers 0 (length t.sites) in
      let sites : length t.sites ≤ 4096 = lawful.few_sites in omega (arith, fewer, few, sites));
}
  where
    drop_16 : (m n : ℕ) → 16 + m ≡ 16 + n → m ≡ n
    drop_16 m n e = omega (arith, e)

-- 4. A step

pub more_attachments : (t : Network) (c : Config) (s : Step) (node : ℕ) → fits t s ≡ true →
    attachments_at t (config_after c s) node ≡ attachments_at t c node + length (attachments_by t node c s)
more_attachments t c s node fit =
    let gives = step_gives t node c s fit in
    let was = total_is c.attaches (sites_at t node) in
    let is = total_is (config_after c s).attaches (sites_at t node) in
    omega (arith, gives, was, is)

attaching_gives : (t : Network) (c : Config) (s : SiteNo) → length (attachments_by t (home_of t s.0) c (step.Attach s)) ≡ 1
attaching_gives t c s = by (home_of t s.0 == home_of t s.0) (same_test (home_of t s.0))
  where
    by : (b : Bool) → b ≡ true → length (if b then attachment_of s.0 (c.attaches s.0 + 2) ∷ [] else []) ≡ 1
    by true e = refl
    by false e = absurd (no e)

pub one_attachment_more : (t : Network) (c : Config) (s : SiteNo) → fits t (step.Attach s) ≡ true →
    attachments_at t (config_after c (step.Attach s)) (home_of t s.0) ≡ attachments_at t c (home_of t s.0) + 1
one_attachment_more t c s fit = more_attachments t c (step.Attach s) (home_of t s.0) fit
    ∙ ap (λ n. attachments_at t c (home_of t s.0) + n) (attaching_gives t c s)

pub no_attachment_more : (t : Network) (c : Config) (s : SiteNo) (node : ℕ) → fits t (step.Attach s) ≡ true → node ≢ home_of t s.0 →
    attachments_at t (config_after c (step.Attach s)) node ≡ attachments_at t c node
no_attachment_more t c s node fit d =
    more_attachments t c (step.Attach s) node fit
    ∙ ap (λ b. attachments_at t c node + length (if b then attachment_of s.0 (c.attaches s.0 + 2) ∷ [] else []))
    (other_test (home_of t s.0) node (λ e. d (sym e)))
    ∙ plus_zero (attachments_at t c node)
  where
    plus_zero : (n : ℕ) → n + 0 ≡ n
    plus_zero n = omega arith

-- an attachment was made before, or is the one that is made
made_before : (t : Network) (c : Config) (s : SiteNo) (site k : ℕ) → IsAttachment t (config_after c (step.Attach s)) site k →
    IsAttachment t c site k ⊎ ((site ≡ s.0) × (k ≡ c.attaches s.0 + 2))
made_before t c s site k h = elim (eqb_tells site s.0) [
  | inr d ↦ inl (record { there = h.there; first = h.first; given = omega (arith, h.given, put_off c.attaches s.0 (c.attaches s.0 + 1) site d.1) })
  | inl q ↦ elim (eqb_tells k (c.attaches s.0 + 2)) [
    | inl e ↦ inr (q.1, e.1)
    | inr e ↦
        (let now : put c.attaches s.0 (c.attaches s.0 + 1) site ≡ c.attaches s.0 + 1 =
        ap (put c.attaches s.0 (c.attaches s.0 + 1)) q.1 ∙ put_here c.attaches s.0 (c.attaches s.0 + 1) in
        let was : c.attaches site ≡ c.attaches s.0 = ap c.attaches q.1 in
        inl (record { there = h.there; first = h.first; given = fewer h.given now was e.1 }))
  ]
]
  where
    fewer : k ≤ put c.attaches s.0 (c.attaches s.0 + 1) site + 1 → put c.attaches s.0 (c.attaches s.0 + 1) site ≡ c.attaches s.0 + 1 →
        c.attaches site ≡ c.attaches s.0 → k ≢ c.attaches s.0 + 2 → k ≤ c.attaches site + 1
    fewer a b d e = grind (arith, a, b, d, e)

-- a label that was given stays
pub label_stays : (t : Network) (c : Config) (l : Labels) (s : SiteNo) (site k : ℕ) → k ≤ c.attaches site + 1 →
    labels_after t c l (step.Attach s) site k ≡ l site k
label_stays t c l s site k h = pair_off l s.0 (c.attaches s.0 + 2) (16 + attachments_at t c (home_of t s.0)) site k (elim (eqb_tells site s.0) [
  | inr d ↦ inl d.1
  | inl q ↦ inr (past (ap c.attaches q.1))
])
  where
    past : c.attaches site ≡ c.attaches s.0 → k ≢ c.attaches s.0 + 2
    past q f = omega (arith, h, f, q)

new_label : (t : Network) (c : Config) (l : Labels) (s : SiteNo) (site k : ℕ) → site ≡ s.0 → k ≡ c.attaches s.0 + 2 →
    labels_after t c l (step.Attach s) site k ≡ 16 + attachments_at t c (home_of t s.0)
new_label t c l s site k e f =
    ap (λ x. labels_after t c l (step.Attach s) x k) e ∙ ap (labels_after t c l (step.Attach s) s.0) f
    ∙ pair_here l s.0 (c.attaches s.0 + 2) (16 + attachments_at t c (home_of t s.0))

module _ (t : Network) (c : Config) (l : Labels) (s : SiteNo) (fit : fits t (step.Attach s) ≡ true) (few : is_spent t c (step.Attach s) ≡ false)
    (h : AreGiven t c l) where
  new_config : Config
  new_config = config_after c (step.Attach s)

  more_there : (node : ℕ) → attachments_at t c node ≤ attachments_at t new_config node
  unfolding new_config
  more_there node = (let is = more_attachments t c (step.Attach s) node fit in omega (arith, is))

  one_there : attachments_at t new_config (home_of t s.0) ≡ attachments_at t c (home_of t s.0) + 1
  unfolding new_config
  one_there = one_attachment_more t c s fit

  below_now : (site k : ℕ) → IsAttachment t new_config site k → labels_after t c l (step.Attach s) site k < 16 + attachments_at t new_config (home_of t site)
  unfolding new_config
  below_now site k is = elim (made_before t c s site k is) [
    | inl old ↦
        (let less = h.below site k old in let same = label_stays t c l s site k old.given in let more = more_there (home_of t site) in
        omega (arith, less, same, more))
    | inr new ↦
        (let is_new = new_label t c l s site k new.0 new.1 in let one = one_there in
        let home : attachments_at t (config_after c (step.Attach s)) (home_of t site) ≡ attachments_at t (config_after c (step.Attach s)) (home_of t s.0) =
        ap (λ x. attachments_at t (config_after c (step.Attach s)) (home_of t x)) new.0 in
        omega (arith, is_new, one, home))
  ]

  -- the new one is beyond all others of its edge
  beyond : (site k other j : ℕ) → IsAttachment t c site k → other ≡ s.0 → j ≡ c.attaches s.0 + 2 → home_of t site ≡ home_of t other →
      labels_after t c l (step.Attach s) site k ≡ labels_after t c l (step.Attach s) other j → ⊥
  beyond site k other j old e f same q =
      (let less = h.below site k old in let stays = label_stays t c l s site k old.given in let new = new_label t c l s other j e f in
      let home : attachments_at t c (home_of t site) ≡ attachments_at t c (home_of t s.0) = ap (attachments_at t c) (same ∙ ap (home_of t) e) in
      omega (arith, less, stays, new, home, q))

  apart_now : (site k other j : ℕ) → IsAttachment t new_config site k → IsAttachment t new_config other j → home_of t site ≡ home_of t other →
      labels_after t c l (step.Attach s) site k ≡ labels_after t c l (step.Attach s) other j → (site ≡ other) × (k ≡ j)
  unfolding new_config
  apart_now site k other j one two same q = elim (made_before t c s site k one) [
    | inl old ↦ elim (made_before t c s other j two) [
      | inl also ↦ h.apart site k other j old also same (sym (label_stays t c l s site k old.given) ∙ q ∙ label_stays t c l s other j also.given)
      | inr new ↦ absurd (beyond site k other j old new.0 new.1 same q)
    ]
    | inr new ↦ elim (made_before t c s other j two) [
      | inl old ↦ absurd (beyond other j site k old new.0 new.1 (sym same) (sym q))
      | inr also ↦ (new.0 ∙ sym also.0, new.1 ∙ sym also.1)
    ]
  ]

  fit_now : AreLabels (labels_after t c l (step.Attach s))
  fit_now site k = elim (eqb_tells site s.0) [
    | inr p ↦ subst (λ n. n < 2 ^ 20) (sym (pair_off l s.0 (c.attaches s.0 + 2) (16 + attachments_at t c (home_of t s.0)) site k (inl p.1))) (h.fit site k)
    | inl p ↦ elim (eqb_tells k (c.attaches s.0 + 2)) [
      | inr q ↦ subst (λ n. n < 2 ^ 20) (sym (pair_off l s.0 (c.attaches s.0 + 2) (16 + attachments_at t c (home_of t s.0)) site k (inr q.1))) (h.fit site k)
      | inl q ↦ subst (λ n. n < 2 ^ 20) (sym (new_label t c l s site k p.1 q.1)) small
    ]
  ]
    where
      small : 16 + attachments_at t c (home_of t s.0) < 2 ^ 20
      small = (let less : labels_given t c (home_of t s.0) < 1048560 = not_at_most_tells 1048560 (labels_given t c (home_of t s.0)) few in omega (arith, less))

  pub attaching_given : AreGiven t (config_after c (step.Attach s)) (labels_after t c l (step.Attach s))
  unfolding new_config
  attaching_given = record { below = below_now; apart = apart_now; fit = fit_now }
