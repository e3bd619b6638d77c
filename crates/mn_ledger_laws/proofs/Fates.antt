-- What is known of each packet that was sent, after each step of a lawful journal.
use Rattle.std.proofs.Common.{ℕ, zero, suc, ◌≡◌, ◌≢◌, ◌+◌, ◌-◌, ◌<◌, ◌≤◌, ◌⊎◌, inl, inr, true, false, List, [], ◌∷◌, length, take, refl, arith, sym, ◌∙◌}
use Rattle.std.proofs.Common.{ap, subst, Option, Some, None}
use Rattle.std.specs.Prelude.{◌==◌, slice_get, slice_index_or}
use Rattle.std.proofs.lemmas.Bool.Decides.{eqb_tells, leb_tells}
use Rattle.std.proofs.lemmas.List.{take_all}
use Rattle.std.proofs.lemmas.Option.{same_Some}
use Rattle.mn_base.proofs.Bools.{none_below, clash}
use Rattle.mn_drops.specs.declared.drops.Rule.{Rule}
use Rattle.mn_wiring.specs.declared.links.Dir.{Dir}
use Rattle.mn_wiring.specs.declared.links.Dir.TheVariants.{Forth, Back}
use Rattle.mn_base.specs.declared.numbers.LinkNo.{LinkNo}
use Rattle.mn_base.specs.declared.numbers.NodeNo.{NodeNo}
use Rattle.mn_base.specs.declared.numbers.SiteNo.{SiteNo}
use Rattle.mn_ipv4.specs.Header.{ttl_of, aged}
use Rattle.mn_topo.specs.Network.{Network}
use Rattle.mn_topo.specs.declared.steps.Step.{Step}
use Rattle.mn_topo.specs.declared.steps.Step.TheVariants.{LinkDown, Carry, Lose, Tick}
use Rattle.mn_topo.specs.declared.steps.JournalEntry.{JournalEntry}
use Rattle.mn_ledger.specs.declared.verdict.Verdict.{Verdict}
use Rattle.mn_ledger.specs.declared.verdict.Verdict.TheVariants.{Delivered, Dropped, Flying}
use Rattle.mn_ledger.specs.Places.{home_of}
use Rattle.mn_ledger.specs.Held.{HeldRoute}
use Rattle.mn_ledger.specs.Packets.{Token, Packets, channel}
use Rattle.mn_ledger.specs.Ledger.{injects, packets_of}
use Rattle.mn_ledger.specs.Verdicts.{one_if, injections, times_in, times_by, verdict_on, AreInOnePlace}
use Rattle.mn_ledger.proofs.Members.{In}
use Rattle.mn_ledger.proofs.OnePlace.{in_one_place, not_one, one_same}
use Rattle.mn_ledger_laws.specs.Accounts.{world_at, packets_at, Sending, IsSent, IsBoundFor, path_of, IsItsPath, is_flying, IsPassedOn, FellAtEntry}
use Rattle.mn_ledger_laws.specs.Accounts.{FellInFlight}
use Rattle.mn_ledger_laws.proofs.At.{bytes_of, packets_step, injections_step}
use Rattle.mn_ledger_laws.proofs.Elsewhere.{Same}
use Rattle.mn_ledger_laws.proofs.Moving.{Leaves, same_step}
use Rattle.mn_ledger.specs.Time.{clock_after}

-- 1. What is known

-- the frame of the packet that was at these nodes, bound for the route, sent on its link at the tick
abbrev pub frame_of : Sending → HeldRoute → List ℕ → ℕ → Token
frame_of s route path tick =
    record {
      packet = s.packet;
      edge = route.edge;
      site = route.site;
      attachment = route.attachment;
      pushed = ttl_of s.bytes - 1;
      ttl = ttl_of s.bytes
          - length path;
      sent = tick;
      bytes = aged s.bytes 1;
    }

-- until now it has flown
abbrev pub HasFlown : Network → List JournalEntry → List (List ℕ) → Sending → ℕ → Type 0
HasFlown t es ps s n = (count : ℕ) → s.place < count → count ≤ n → is_flying (verdict_on (packets_at t es ps count) s.packet) ≡ true

-- it flies: its frame is one of the route's
pub record Flies (t : Network) (es : List JournalEntry) (ps : List (List ℕ)) (s : Sending) (n : ℕ) (l : LinkNo) : Type 0 where
  pub route : HeldRoute
  pub bound : IsBoundFor t es s route
  pub home : home_of t route.site ≡ route.edge
  pub there : l.0 < length t.links
  pub left : length (path_of (packets_at t es ps n) s.packet) < ttl_of s.bytes
  pub frames : (c : ℕ) (k : Token) → In ((packets_at t es ps n).flying c) k → k.packet ≡ s.packet
      → k ≡ frame_of s route (path_of (packets_at t es ps n) s.packet) k.sent
  pub flown : HasFlown t es ps s n

-- the step that gave it this verdict
pub record Ends (t : Network) (es : List JournalEntry) (ps : List (List ℕ)) (s : Sending) (n : ℕ) (v : Verdict) : Type 0 where
  pub when : ℕ
  pub entry : JournalEntry
  pub there : slice_get es when ≡ Some entry
  pub sent : s.place ≤ when
  pub past : when < n
  pub flown : HasFlown t es ps s when
  pub first : verdict_on (packets_at t es ps (suc when)) s.packet ≡ v

pub record Arrives (t : Network) (es : List JournalEntry) (ps : List (List ℕ)) (s : Sending) (n : ℕ) (site : SiteNo) (ttl copy : ℕ) : Type 0 where
  pub route : HeldRoute
  pub bound : IsBoundFor t es s route
  pub to_site : site.0 ≡ route.site
  pub ends : Ends t es ps s n (Delivered ttl site copy)
  pub attached : (world_at t es ends.when).config.attached site.0 ≡ Some route.attachment
  pub lowered : ttl + length (path_of (packets_at t es ps n) s.packet) ≡ ttl_of s.bytes
  pub counted : (packets_at t es ps ends.when).copies + 1 ≡ copy
  pub arrived : List ℕ
  pub delivered : (packets_at t es ps (suc ends.when)).delivered ≡ Some arrived
  pub passed_on : IsPassedOn s.bytes ttl arrived

pub record Falls (t : Network) (es : List JournalEntry) (ps : List (List ℕ)) (s : Sending) (n : ℕ) (cause : Rule) (node : NodeNo) : Type 0 where
  pub ends : Ends t es ps s n (Dropped cause node)
  pub how : FellAtEntry t es s cause node ends.when ⊎ FellInFlight t es ps s cause node ends.when ends.entry

abbrev pub FateIs : Network → List JournalEntry → List (List ℕ) → Sending → ℕ → Verdict → Type 0
FateIs t es ps s n (Delivered ttl site copy) = Arrives t es ps s n site ttl copy
FateIs t es ps s n (Dropped cause node) = Falls t es ps s n cause node
FateIs t es ps s n (Flying l d) = Flies t es ps s n l

pub record IsKnown (t : Network) (es : List JournalEntry) (ps : List (List ℕ)) (s : Sending) (n : ℕ) : Type 0 where
  pub way : IsItsPath t s.site (verdict_on (packets_at t es ps n) s.packet) (path_of (packets_at t es ps n) s.packet)
  pub fate : FateIs t es ps s n (verdict_on (packets_at t es ps n) s.packet)

-- 2. A packet that was sent has a verdict

injections_grow : (es : List JournalEntry) (m n : ℕ) → m ≤ n → injections (take m es) ≤ injections (take n es)
injections_grow es zero n h = omega arith
injections_grow es (suc m) zero h = absurd (none_below m h)
injections_grow [] (suc m) (suc n) h = omega arith
injections_grow (x ∷ es) (suc m) (suc n) h = omega (arith, injections_grow es m n (omega (arith, h)))

pub placed : (t : Network) (es : List JournalEntry) (ps : List (List ℕ)) (n : ℕ) → AreInOnePlace (packets_at t es ps n) (injections (take n es))
placed t es ps n = in_one_place t (take n es) ps

pub sent_before : (es : List JournalEntry) (ps : List (List ℕ)) (s : Sending) (n : ℕ) → IsSent es ps s → s.place < n → s.packet < injections (take n es)
sent_before es ps s n h below =
    omega (arith, h.earlier, injections_step es s.place h.entry h.there, ap (λ x. one_if (injects x)) h.injects, injections_grow es (suc s.place) n below)

pub in_verdicts : (t : Network) (es : List JournalEntry) (ps : List (List ℕ)) (s : Sending) (n : ℕ) → IsSent es ps s → s.place < n
    → s.packet < length (packets_at t es ps n).verdicts
in_verdicts t es ps s n h below = omega (arith, sent_before es ps s n h below, (placed t es ps n).verdicts)

pub in_paths : (t : Network) (es : List JournalEntry) (ps : List (List ℕ)) (s : Sending) (n : ℕ) → IsSent es ps s → s.place < n
    → s.packet < length (packets_at t es ps n).paths
in_paths t es ps s n h below = omega (arith, sent_before es ps s n h below, (placed t es ps n).paths)

-- a verdict by whether it flies
pub where_flying : (v : Verdict) → (is_flying v ≡ false) ⊎ ((l : LinkNo) × (d : Dir) × (v ≡ Flying l d))
where_flying (Flying l d) = inr (l, d, refl)
where_flying (Delivered ttl site copy) = inl refl
where_flying (Dropped cause node) = inl refl

-- where a packet flies is one direction of one link
pub one_way : (a b : LinkNo) (c f : Dir) → Flying a c ≡ Flying b f → (a.0 ≡ b.0) × (c ≡ f)
one_way a b c f h = (
  ap (λ v. elim v as (λ _. ℕ) [ Flying x y ↦ x.0 | Delivered y x z ↦ 0 | Dropped x y ↦ 0 ]) h,
  ap (λ v. elim v as (λ _. Dir) [ Flying x y ↦ y | Delivered y x z ↦ c | Dropped x y ↦ c ]) h,
)

-- 3. Its frames

pub in_counts : (j : ℕ) (ks : List Token) (k : Token) → In ks k → k.packet ≡ j → 1 ≤ times_in j ks
in_counts j [] k i e = absurd i
in_counts j (x ∷ xs) k i e = elim i [
  | inl q ↦ omega (arith, ap (λ (y : Token). one_if (y.packet == j)) q, ap (λ m. one_if (m == j)) e, one_same j)
  | inr m ↦ omega (arith, in_counts j xs k m e)
]

-- one that is counted once is the only one
pub only_one : (j : ℕ) (ks : List Token) (k x : Token) → times_in j ks ≡ 1 → In ks k → In ks x → k.packet ≡ j → x.packet ≡ j → k ≡ x
only_one j [] k x h i m e f = absurd i
only_one j (y ∷ ys) k x h i m e f = elim i [
  | inl q ↦ elim m [
    | inl r ↦ sym q ∙ r
    | inr r ↦ absurd (twice (one_if (y.packet == j)) (times_in j ys) (ap (λ (z : Token). one_if (z.packet == j)) q ∙ ap (λ n. one_if (n == j)) e
        ∙ one_same j) (in_counts j ys x r f) h)
  ]
  | inr q ↦ elim m [
    | inl r ↦ absurd (twice (one_if (y.packet == j)) (times_in j ys) (ap (λ (z : Token). one_if (z.packet == j)) r ∙ ap (λ n. one_if (n == j)) f
        ∙ one_same j) (in_counts j ys k q e) h)
    | inr r ↦ only_one j ys k x (rest (one_if (y.packet == j)) (times_in j ys) (in_counts j ys k q e) h) q r e f
  ]
]
  where
    twice : (a b : ℕ) → a ≡ 1 → 1 ≤ b → a + b ≡ 1 → ⊥
    twice a b p q r = omega (arith, p, q, r)

    rest : (a b : ℕ) → 1 ≤ b → a + b ≡ 1 → b ≡ 1
    rest a b q r = omega (arith, q, r)

some_counted : (j : ℕ) (ks : List Token) → 1 ≤ times_in j ks → (k : Token) × In ks k × (k.packet ≡ j)
some_counted j [] h = absurd (none_below 0 h)
some_counted j (x ∷ xs) h = elim (eqb_tells x.packet j) [
  | inl q ↦ (x, inl refl, q.1)
  | inr q ↦ let rest = some_counted j xs (omega (arith, h, ap one_if q.0)) in (rest.0, inr rest.1, rest.2)
]

pub one_link : (m n : ℕ) (a b : Dir) → channel m a ≡ channel n b → (m ≡ n) × (a ≡ b)
one_link m n Forth Forth q = (omega (arith, q), refl)
one_link m n Forth Back q = absurd (omega (arith, q))
one_link m n Back Forth q = absurd (omega (arith, q))
one_link m n Back Back q = (omega (arith, q), refl)

-- a verdict that flies on a channel
flies_on : (v : Verdict) (c : ℕ) → 1 ≤ times_by v c → (l : LinkNo) × (d : Dir) × (v ≡ Flying l d) × (channel l.0 d ≡ c)
flies_on (Flying l d) c h = elim (eqb_tells (channel l.0 d) c) [ inl q ↦ (l, d, refl, q.1) | inr q ↦ absurd (none_below 0 (subst (λ b. 1 ≤ one_if b) q.0 h)) ]
flies_on (Delivered ttl site copy) c h = absurd (none_below 0 h)
flies_on (Dropped r n) c h = absurd (none_below 0 h)

-- a frame on a channel says where its packet flies
pub where_it_flies : (w : Packets) (count : ℕ) (l : LinkNo) (d : Dir) (k : Token) → AreInOnePlace w count → In (w.flying (channel l.0 d)) k
    → verdict_on w k.packet ≡ Flying l d
where_it_flies w count l d k one i =
    let f = flies_on (verdict_on w k.packet) (channel l.0 d)
    (subst (λ n. 1 ≤ n) (one.places k.packet (channel l.0 d)) (in_counts k.packet (w.flying (channel l.0 d)) k i refl)) in
    let same = one_link f.0.0 l.0 f.1 d f.3 in
    f.2 ∙ ap (λ n. Flying (record { 0 = n }) f.1) same.0 ∙ ap (Flying l) same.1

-- and one that flies was sent
past_none : (vs : List Verdict) (j : ℕ) → length vs ≤ j → slice_index_or vs j (Delivered 0 (record { 0 = 0 }) 0) ≡ Delivered 0 (record { 0 = 0 }) 0
past_none [] j h = refl
past_none (v ∷ vs) zero h = absurd (none_below (length vs) h)
past_none (v ∷ vs) (suc j) h = past_none vs j (omega (arith, h))

not_delivered : (l : LinkNo) (d : Dir) → Delivered 0 (record { 0 = 0 }) 0 ≡ Flying l d → ⊥
not_delivered l d h = cc

pub flying_inside : (w : Packets) (j : ℕ) (l : LinkNo) (d : Dir) → verdict_on w j ≡ Flying l d → j < length w.verdicts
flying_inside w j l d h = elim (leb_tells (length w.verdicts) j) [ inl q ↦ absurd (not_delivered l d (sym (past_none w.verdicts j q.1) ∙ h)) | inr q ↦ q.1 ]

-- one that doesn't fly has clash frame
no_flying : (v : Verdict) (c : ℕ) → is_flying v ≡ false → times_by v c ≡ 0
no_flying (Flying l d) c h = absurd (clash h)
no_flying (Delivered ttl site copy) c h = refl
no_flying (Dropped r n) c h = refl

pub no_frame : (w : Packets) (count j c : ℕ) (k : Token) → AreInOnePlace w count → is_flying (verdict_on w j) ≡ false → In (w.flying c) k → k.packet ≢ j
no_frame w count j c k one ended i e = not_one (subst (λ n. 1 ≤ n) (one.places j c ∙ no_flying (verdict_on w j) c ended) (in_counts j (w.flying c) k i e))

-- one that flies has a frame
pub some_frame : (w : Packets) (count j : ℕ) (l : LinkNo) (d : Dir) → AreInOnePlace w count → verdict_on w j ≡ Flying l d
    → (k : Token) × In (w.flying (channel l.0 d)) k × (k.packet ≡ j)
some_frame w count j l d one h =
    some_counted j (w.flying (channel l.0 d))
    (subst (λ n. 1 ≤ n) (sym (one.places j (channel l.0 d) ∙ ap (λ v. times_by v (channel l.0 d)) h ∙ one_same (channel l.0 d))) (omega arith))

-- of a packet that flies this is the only frame
pub the_frame : (w : Packets) (count j : ℕ) (l m : LinkNo) (d b : Dir) (k x : Token) → AreInOnePlace w count → verdict_on w j ≡ Flying l d
    → In (w.flying (channel l.0 d)) x → x.packet ≡ j → In (w.flying (channel m.0 b)) k → k.packet ≡ j → (m.0 ≡ l.0) × (b ≡ d) × (k ≡ x)
the_frame w count j l m d b k x one is on e at f =
    let way = one_way m l b d (sym (where_it_flies w count m b k one at) ∙ ap (verdict_on w) f ∙ is) in (
      way.0,
      way.1,
      only_one j (w.flying (channel l.0 d)) k x
          (one.places j (channel l.0 d) ∙ ap (λ v. times_by v (channel l.0 d)) is ∙ one_same (channel l.0 d))
          (subst (λ c. In (w.flying (channel l.0 c)) k) way.1 (subst (λ a. In (w.flying (channel a b)) k) way.0 at)) on f e,
    )

-- a frame of a packet that is still to be sent isn't there
past_flying : (t : Network) (es : List JournalEntry) (ps : List (List ℕ)) (n j : ℕ) → injections (take n es) ≤ j
    → is_flying (verdict_on (packets_at t es ps n) j) ≡ false
past_flying t es ps n j h = ap is_flying (past_none (packets_at t es ps n).verdicts j (omega (arith, h, (placed t es ps n).verdicts)))

pub none_yet : (t : Network) (es : List JournalEntry) (ps : List (List ℕ)) (n j c : ℕ) (k : Token) → injections (take n es) ≤ j
    → In ((packets_at t es ps n).flying c) k → k.packet ≢ j
none_yet t es ps n j c k h = no_frame (packets_at t es ps n) (injections (take n es)) j c k (placed t es ps n) (past_flying t es ps n j h)

-- 4. A step that leaves the packet

pub in_get : {A : Type 0} (xs : List A) (i : ℕ) (x : A) → slice_get xs i ≡ Some x → In xs x
in_get [] i x h = cc
in_get (y ∷ ys) zero x h = inl (same_Some y x h)
in_get (y ∷ ys) (suc i) x h = inr (in_get ys i x h)

same_at : (t : Network) (es : List JournalEntry) (ps : List (List ℕ)) (s : Sending) (n : ℕ) (e : JournalEntry) → IsSent es ps s → s.place < n
    → slice_get es n ≡ Some e → Leaves t (clock_after e) s.packet (packets_at t es ps n) e.step
    → Same s.packet (packets_at t es ps n) (packets_at t es ps (suc n))
same_at t es ps s n e sent below there leaves =
    subst (Same s.packet (packets_at t es ps n)) (sym (packets_step t es ps n e there))
    (same_step t (clock_after e) (world_at t es n) (packets_at t es ps n) e.step (bytes_of ps (injections (take n es))) s.packet
    (in_verdicts t es ps s n sent below)
    (in_paths t es ps s n sent below) leaves)

-- an end that stands, one step later
abbrev later_ends : (t : Network) (es : List JournalEntry) (ps : List (List ℕ)) (s : Sending) (n : ℕ) (v : Verdict) → Ends t es ps s n v →
    Ends t es ps s (suc n) v
later_ends t es ps s n v ends = record {
  when = ends.when;
  entry = ends.entry;
  there = ends.there;
  sent = ends.sent;
  past = omega (arith, ends.past);
  flown = ends.flown;
  first = ends.first;
}

later_fate : (t : Network) (es : List JournalEntry) (ps : List (List ℕ)) (s : Sending) (n : ℕ) (v : Verdict) → is_flying v ≡ false
    → path_of (packets_at t es ps (suc n)) s.packet ≡ path_of (packets_at t es ps n) s.packet
    → FateIs t es ps s n v → FateIs t es ps s (suc n) v
later_fate t es ps s n (Flying l d) ended path f = absurd (clash ended)
later_fate t es ps s n (Delivered ttl site copy) ended path f = record {
  route = f.route;
  bound = f.bound;
  to_site = f.to_site;
  ends = later_ends t es ps s n (Delivered ttl site copy) f.ends;
  attached = f.attached;
  lowered = ap (λ p. ttl + length p) path ∙ f.lowered;
  counted = f.counted;
  arrived = f.arrived;
  delivered = f.delivered;
  passed_on = f.passed_on;
}
later_fate t es ps s n (Dropped cause node) ended path f = record {
  ends = later_ends t es ps s n (Dropped cause node) f.ends;
  how = f.how;
}

-- until now, and now
pub flown_on : (t : Network) (es : List JournalEntry) (ps : List (List ℕ)) (s : Sending) (n : ℕ) → HasFlown t es ps s n
    → is_flying (verdict_on (packets_at t es ps (suc n)) s.packet) ≡ true → HasFlown t es ps s (suc n)
flown_on t es ps s n h now count sent low = elim (eqb_tells count (suc n)) [
  | inl q ↦ subst (λ m. is_flying (verdict_on (packets_at t es ps m) s.packet) ≡ true) (sym q.1) now
  | inr q ↦ h count sent (below_it count n low q.1)
]
  where
    below_it : (m n : ℕ) → m ≤ suc n → m ≢ suc n → m ≤ n
    below_it m n h d = omega (arith, h, d)

-- a flight that goes on as it was
same_fate : (t : Network) (es : List JournalEntry) (ps : List (List ℕ)) (s : Sending) (n : ℕ) (l : LinkNo) (d : Dir)
    → Same s.packet (packets_at t es ps n) (packets_at t es ps (suc n)) → verdict_on (packets_at t es ps n) s.packet ≡ Flying l d
    → Flies t es ps s n l → Flies t es ps s (suc n) l
same_fate t es ps s n l d same is f = record {
  route = f.route;
  bound = f.bound;
  home = f.home;
  there = f.there;
  left = subst (λ p. length p < ttl_of s.bytes) (sym same.path) f.left;
  frames = λ c k i e. f.frames c k (same.frames c k i e) e ∙ ap (λ p. frame_of s f.route p k.sent) (sym same.path);
  flown = flown_on t es ps s n f.flown (ap is_flying (same.verdict ∙ is));
}

pub stays_known : (t : Network) (es : List JournalEntry) (ps : List (List ℕ)) (s : Sending) (n : ℕ)
    → Same s.packet (packets_at t es ps n) (packets_at t es ps (suc n)) → IsKnown t es ps s n → IsKnown t es ps s (suc n)
stays_known t es ps s n same h = record {
  way = subst (λ v. IsItsPath t s.site v (path_of (packets_at t es ps (suc n)) s.packet)) (sym same.verdict)
      (subst (IsItsPath t s.site (verdict_on (packets_at t es ps n) s.packet)) (sym same.path) h.way);
  fate = subst (FateIs t es ps s (suc n)) (sym same.verdict) (by_verdict (verdict_on (packets_at t es ps n) s.packet) refl h.fate);
}
  where
    by_verdict : (v : Verdict) → verdict_on (packets_at t es ps n) s.packet ≡ v → FateIs t es ps s n v → FateIs t es ps s (suc n) v
    by_verdict (Flying l d) e f = same_fate t es ps s n l d same e f
    by_verdict (Delivered ttl site copy) e f = later_fate t es ps s n (Delivered ttl site copy) refl same.path f
    by_verdict (Dropped cause node) e f = later_fate t es ps s n (Dropped cause node) refl same.path f

-- a step that takes none of its frames leaves it
pub left_known : (t : Network) (es : List JournalEntry) (ps : List (List ℕ)) (s : Sending) (n : ℕ) (e : JournalEntry) → IsSent es ps s → s.place < n
    → slice_get es n ≡ Some e → Leaves t (clock_after e) s.packet (packets_at t es ps n) e.step
    → IsKnown t es ps s n → IsKnown t es ps s (suc n)
left_known t es ps s n e sent below there leaves h = stays_known t es ps s n (same_at t es ps s n e sent below there leaves) h

-- 5. What has ended stays

-- clash step takes a frame of a packet that doesn't fly
pub leaves_ended : (t : Network) (es : List JournalEntry) (ps : List (List ℕ)) (j n : ℕ) (e : JournalEntry)
    → is_flying (verdict_on (packets_at t es ps n) j) ≡ false → Leaves t (clock_after e) j (packets_at t es ps n) e.step
leaves_ended t es ps j n e ended = by_step e.step
  where
    off : (c : ℕ) (k : Token) → In ((packets_at t es ps n).flying c) k → k.packet ≢ j
    off c k i = no_frame (packets_at t es ps n) (injections (take n es)) j c k (placed t es ps n) ended i

    taken : (c place : ℕ) (k : Token) → slice_get ((packets_at t es ps n).flying c) place ≡ Some k → j ≢ k.packet
    taken c place k h q = off c k (in_get ((packets_at t es ps n).flying c) place k h) (sym q)

    by_step : (x : Step) → Leaves t (clock_after e) j (packets_at t es ps n) x
    by_step (Carry l d place) = taken (channel l.0 d) place
    by_step (Lose l d place) = taken (channel l.0 d) place
    by_step (LinkDown l) = λ d. off (channel l.0 d)
    by_step (Tick ticks) = λ l d k there i same. absurd (off (channel l d) k i same)
    by_step _ = tt

-- from one place on
ended_goes : (t : Network) (es : List JournalEntry) (ps : List (List ℕ)) (s : Sending) (n more : ℕ) → IsSent es ps s → s.place < n
    → is_flying (verdict_on (packets_at t es ps n) s.packet) ≡ false
    → (verdict_on (packets_at t es ps (more + n)) s.packet ≡ verdict_on (packets_at t es ps n) s.packet)
    × (path_of (packets_at t es ps (more + n)) s.packet ≡ path_of (packets_at t es ps n) s.packet)
ended_goes t es ps s n zero sent below
    ended = (ap (λ m. verdict_on (packets_at t es ps m) s.packet) (none n), ap (λ m. path_of (packets_at t es ps m) s.packet) (none n))
  where
    none : (n : ℕ) → 0 + n ≡ n
    none n = omega arith
ended_goes t es ps s n (suc more) sent below ended =
    let h = ended_goes t es ps s n more sent below ended in
    let here : is_flying (verdict_on (packets_at t es ps (more + n)) s.packet) ≡ false = ap is_flying h.0 ∙ ended in
    let step = one (slice_get es (more + n)) refl here in (
      ap (λ m. verdict_on (packets_at t es ps m) s.packet) (next more n) ∙ step.0
          ∙ h.0,
      ap (λ m. path_of (packets_at t es ps m) s.packet) (next more n) ∙ step.1 ∙ h.1,
    )
  where
    next : (m n : ℕ) → suc m + n ≡ suc (m + n)
    next m n = omega arith

    one : (o : Option JournalEntry) → slice_get es (more + n) ≡ o → is_flying (verdict_on (packets_at t es ps (more + n)) s.packet) ≡ false
        → (verdict_on (packets_at t es ps (suc (more + n))) s.packet ≡ verdict_on (packets_at t es ps (more + n)) s.packet)
        × (path_of (packets_at t es ps (suc (more + n))) s.packet ≡ path_of (packets_at t es ps (more + n)) s.packet)
    one (Some e) there ended =
        let same = same_at t es ps s (more + n) e sent (omega (arith, below)) there (leaves_ended t es ps s.packet (more + n) e ended) in
        (same.verdict, same.path)
    one None there ended =
        let past : (packets_at t es ps (suc (more + n))) ≡ packets_at t es ps (more + n) = ap (λ xs. packets_of t xs ps)
        (take_all (suc (more + n)) es (omega (arith, out (more + n) there)) ∙ sym (take_all (more + n) es (out (more + n) there))) in
        (ap (λ q. verdict_on q s.packet) past, ap (λ q. path_of q s.packet) past)
      where
        out : (i : ℕ) → slice_get es i ≡ None → length es ≤ i
        out i h = elim (leb_tells (length es) i) [ inl q ↦ q.1 | inr q ↦ absurd (some_there i q.1 h) ]
          where
            some_there : (i : ℕ) → i < length es → slice_get es i ≡ None → ⊥
            some_there i h g = there_is es i h g
              where
                there_is : (xs : List JournalEntry) (i : ℕ) → i < length xs → slice_get xs i ≡ None → ⊥
                there_is [] i h g = none_below i h
                there_is (x ∷ xs) zero h g = cc
                there_is (x ∷ xs) (suc i) h g = there_is xs i (omega (arith, h)) g

pub ended_stays : (t : Network) (es : List JournalEntry) (ps : List (List ℕ)) (s : Sending) (n m : ℕ) → IsSent es ps s → s.place < n → n ≤ m
    → is_flying (verdict_on (packets_at t es ps n) s.packet) ≡ false
    → (verdict_on (packets_at t es ps m) s.packet ≡ verdict_on (packets_at t es ps n) s.packet)
    × (path_of (packets_at t es ps m) s.packet ≡ path_of (packets_at t es ps n) s.packet)
ended_stays t es ps s n m sent below le ended =
    subst (λ i. (verdict_on (packets_at t es ps i) s.packet ≡ verdict_on (packets_at t es ps n) s.packet)
    × (path_of (packets_at t es ps i) s.packet ≡ path_of (packets_at t es ps n) s.packet)) (back m n le)
    (ended_goes t es ps s n (m - n) sent below ended)
  where
    back : (m n : ℕ) → n ≤ m → m - n + n ≡ m
    back m n h = omega (arith, h)
