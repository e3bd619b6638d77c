-- Each packet that is sent is accounted for; and what flies is a good packet.
use Rattle.std.proofs.Common.{ℕ, zero, suc, ◌≡◌, ◌+◌, ◌-◌, ◌<◌, ◌≤◌, inl, inr, Bool, true, false, List, [], ◌∷◌, ◌++◌, length, take, refl, arith, sym, ◌∙◌}
use Rattle.std.proofs.Common.{ap, subst, Option, Some, None}
use Rattle.std.specs.Prelude.{◌==◌, ◌||◌, IsTrue, slice_get, slice_index, slice_index_or}
use Rattle.std.proofs.lemmas.Bool.Decides.{eqb_tells}
use Rattle.std.proofs.lemmas.List.{length-append, take-append-le, take_all}
use Rattle.std.proofs.lemmas.Option.{slice_get_within}
use Rattle.mn_base.proofs.Bools.{none_below}
use Rattle.mn_base.specs.declared.numbers.LinkNo.{LinkNo}
use Rattle.mn_ipv4.specs.Header.{good, ttl_of}
use Rattle.mn_ipv4.proofs.Laws.{IsGood-from_good, length-aged, ttl_of-aged, total_length-aged, good-aged}
use Rattle.mn_topo.specs.Lawful.{IsLawful}
use Rattle.mn_topo.specs.Network.{Network}
use Rattle.mn_topo.specs.VrfTable.{is_edge}
use Rattle.mn_topo.specs.declared.vrfs.VrfDef.{VrfDef}
use Rattle.mn_topo.specs.declared.steps.Step.{Step}
use Rattle.mn_topo.specs.declared.steps.Step.TheVariants.{Inject}
use Rattle.mn_topo.specs.declared.steps.JournalEntry.{JournalEntry}
use Rattle.mn_ledger.specs.declared.verdict.Verdict.{Verdict}
use Rattle.mn_ledger.specs.declared.verdict.Verdict.TheVariants.{Delivered, Dropped, Flying}
use Rattle.mn_ledger.specs.Places.{vrf_of, edge_of, home_of}
use Rattle.mn_ledger.specs.World.{World}
use Rattle.mn_ledger.specs.Packets.{Token, Packets, channel, flying_on}
use Rattle.mn_ledger.specs.Ledger.{injects, world_of, packets_of}
use Rattle.mn_ledger.specs.Lawful.{IsLawfulJournal}
use Rattle.mn_ledger.specs.Verdicts.{one_if, injections, verdict_on}
use Rattle.mn_ledger.proofs.Members.{In, in_contained}
use Rattle.mn_ledger.proofs.OnePlace.{in_one_place}
use Rattle.mn_ledger.proofs.Peers.{same_test}
use Rattle.mn_ledger_laws.specs.Deliveries.{deliveries_of}
use Rattle.mn_ledger_laws.specs.Accounts.{world_at, packets_at, Sending, IsSent, routes_at, path_of, IsItsPath, is_flying, IsLastStep, IsFate, IsAccountedFor}
use Rattle.mn_ledger_laws.specs.Accounts.{IsOneCopy, Accounts}
use Rattle.mn_ledger_laws.specs.Named.{AreBytes, IsGoodFrame, FramesAreGood}
use Rattle.mn_ledger_laws.proofs.At.{world_step, world_whole, packets_whole, packets_longer}
use Rattle.mn_ledger_laws.proofs.Announced.{attaches_grow}
use Rattle.mn_ledger_laws.proofs.Copies.{AreNumbered, numbered, as_many, listed}
use Rattle.mn_ledger_laws.proofs.Fates.{frame_of, Ends, Flies, FateIs, IsKnown, flying_inside, where_it_flies, ended_stays}
use Rattle.mn_ledger_laws.proofs.Holding.{sites_held}
use Rattle.mn_ledger_laws.proofs.Sent.{site_there, known}
use Rattle.mn_ledger_laws.proofs.There.{vrf_there}
use Rattle.mn_ledger_laws.proofs.Travelling.{HoldsSites}

-- 1. Each injection sends a packet

some_at : {A : Type 0} (xs : List A) (i : ℕ) → i < length xs → (x : A) × (slice_get xs i ≡ Some x)
some_at [] i h = absurd (none_below i h)
some_at (x ∷ xs) zero h = (x, refl)
some_at (x ∷ xs) (suc i) h = some_at xs i (omega (arith, h))

-- the entry that injects the packet of a number
record IsInjection (es : List JournalEntry) (j : ℕ) : Type 0 where
  pub place : ℕ
  pub entry : JournalEntry
  pub there : slice_get es place ≡ Some entry
  pub injects : injects entry.step ≡ true
  pub earlier : injections (take place es) ≡ j

find : (es : List JournalEntry) (j : ℕ) → j < injections es → IsInjection es j
find [] j h = absurd (none_below j h)
find (x ∷ es) j h = by_kind (injects x.step) refl (find es)
  where
    further : (i : ℕ) → one_if (injects x.step) + i ≡ j → IsInjection es i → IsInjection (x ∷ es) j
    further i e f = record { place = suc f.place; entry = f.entry; there = f.there; injects = f.injects; earlier = omega (arith, e, f.earlier) }

    by_kind : (f : Bool) → injects x.step ≡ f → ((i : ℕ) → i < injections es → IsInjection es i) → IsInjection (x ∷ es) j
    by_kind false e rest = further j (omega (arith, ap one_if e)) (rest j (omega (arith, h, ap one_if e)))
    by_kind true e rest = elim (eqb_tells j 0) [
      | inl q ↦ record { place = 0; entry = x; there = refl; injects = e; earlier = sym q.1 }
      | inr q ↦ further (j - 1) (omega (arith, q.1, ap one_if e)) (rest (j - 1) (omega (arith, q.1, h, ap one_if e)))
    ]

is_injection : (s : Step) → injects s ≡ true → (site : ℕ) × (number : ℕ) × (s ≡ Inject (record { 0 = site }) number)
is_injection (Inject site number) h = (site.0, number, refl)
is_injection _ h = cc

sent_of : (es : List JournalEntry) (ps : List (List ℕ)) (j : ℕ) → length ps ≡ injections es → j < injections es
    → (s : Sending) × (s.packet ≡ j) × IsSent es ps s
sent_of es ps j each h =
    let f = find es j h in
    let step = is_injection f.entry.step f.injects in
    let bytes = some_at ps j (omega (arith, h, each)) in (
      record { packet = j; place = f.place; site = step.0; bytes = bytes.0 },
      refl,
      record { entry = f.entry; number = step.1; there = f.there; injects = step.2; earlier = f.earlier; content = bytes.1 },
    )

get_front : {A : Type 0} (xs ys : List A) (i : ℕ) (x : A) → slice_get xs i ≡ Some x → slice_get (xs ++ ys) i ≡ Some x
get_front [] ys i x h = cc
get_front (z ∷ xs) ys zero x h = h
get_front (z ∷ xs) ys (suc i) x h = get_front xs ys i x h

-- and is sent in each longer journal too
sent_longer : (es more : List JournalEntry) (ps later : List (List ℕ)) (s : Sending) → IsSent es ps s → IsSent (es ++ more) (ps ++ later) s
sent_longer es more ps later s h = record {
  entry = h.entry;
  number = h.number;
  there = get_front es more s.place h.entry h.there;
  injects = h.injects;
  earlier = ap injections (take-append-le s.place es more (within (slice_get_within es s.place h.entry h.there))) ∙ h.earlier;
  content = get_front ps later s.packet s.bytes h.content;
}
  where
    within : s.place < length es → s.place ≤ length es
    within g = omega (arith, g)

-- 2. One packet

last_step : (t : Network) (es : List JournalEntry) (ps : List (List ℕ)) (s : Sending) (n : ℕ) (v : Verdict) → IsSent es ps s → is_flying v ≡ false
    → (e : Ends t es ps s n v) → IsLastStep t es ps s v e.when e.entry
last_step t es ps s n v sent ended e = record {
  there = e.there;
  sent = e.sent;
  until = e.flown;
  since = λ count late. (ended_stays t es ps s (suc e.when) count sent (omega (arith, e.sent)) (omega (arith, late)) (ap is_flying e.first ∙ ended)).0
      ∙ e.first;
}

path_whole : (t : Network) (es : List JournalEntry) (ps : List (List ℕ)) (j : ℕ) → path_of (packets_of t es ps) j ≡ path_of (packets_at t es ps (length es)) j
path_whole t es ps j = ap (λ q. path_of q j) (sym (packets_whole t es ps (length es) (omega arith)))

one_less : (c copy : ℕ) → c + 1 ≡ copy → copy - 1 ≡ c
one_less c copy h = omega (arith, h)

fate_of : (t : Network) (es : List JournalEntry) (ps : List (List ℕ)) (s : Sending) → IsSent es ps s → (v : Verdict) → FateIs t es ps s (length es) v
    → IsFate t es ps s v
fate_of t es ps s sent (Delivered ttl site copy) f = record {
  route = f.route;
  bound = f.bound;
  to_site = f.to_site;
  when = f.ends.when;
  entry = f.ends.entry;
  last = last_step t es ps s (length es) (Delivered ttl site copy) sent refl f.ends;
  attached = f.attached;
  lowered = ap (λ p. ttl + length p) (path_whole t es ps s.packet) ∙ f.lowered;
  counted = omega (arith, f.counted);
  arrived = f.arrived;
  delivery = ap (slice_get (deliveries_of t es ps)) (one_less (packets_at t es ps f.ends.when).copies copy f.counted)
      ∙ listed t es ps f.ends.when f.ends.entry f.arrived f.ends.there f.delivered;
  passed_on = f.passed_on;
}
fate_of t es ps s sent (Dropped cause node) f = record {
  when = f.ends.when;
  entry = f.ends.entry;
  last = last_step t es ps s (length es) (Dropped cause node) sent refl f.ends;
  how = f.how;
}
fate_of t es ps s sent (Flying l d) f = record {
  route = f.route;
  bound = f.bound;
  there = f.there;
  lives = subst (λ p. 1 ≤ ttl_of s.bytes - length p) (sym (path_whole t es ps s.packet)) (omega (arith, f.left));
}

known_at_end : (t : Network) (es : List JournalEntry) (ps : List (List ℕ)) → IsLawful t → IsLawfulJournal t es ps → (s : Sending) → IsSent es ps s
    → IsKnown t es ps s (length es)
known_at_end t es ps lawful journal s sent = known t lawful es ps journal (sites_held t lawful es ps journal) (length es) (omega arith) s sent
    (slice_get_within es s.place sent.entry sent.there)

stays : (t : Network) (es more : List JournalEntry) (ps later : List (List ℕ)) (s : Sending) → IsSent es ps s → length ps ≡ injections es
    → is_flying (verdict_on (packets_of t es ps) s.packet) ≡ false
    → (verdict_on (packets_of t (es ++ more) (ps ++ later)) s.packet ≡ verdict_on (packets_of t es ps) s.packet)
    × (path_of (packets_of t (es ++ more) (ps ++ later)) s.packet ≡ path_of (packets_of t es ps) s.packet)
stays t es more ps later s sent each ended =
    let xs : List JournalEntry = es ++ more in
    let qs : List (List ℕ) = ps ++ later in
    let then : packets_at t xs qs (length es) ≡ packets_of t es ps = packets_longer t es more ps later each in
    let now : packets_at t xs qs (length xs) ≡ packets_of t xs qs = packets_whole t xs qs (length xs) (omega arith) in
    let h = ended_stays t xs qs s (length es) (length xs) (sent_longer es more ps later s sent) (slice_get_within es s.place sent.entry sent.there)
    (longer (length-append es more)) (ap (λ q. is_flying (verdict_on q s.packet)) then ∙ ended) in (
      ap (λ q. verdict_on q s.packet) (sym now) ∙ h.0 ∙ ap (λ q. verdict_on q s.packet) then,
      ap (λ q. path_of q s.packet) (sym now) ∙ h.1 ∙ ap (λ q. path_of q s.packet) then,
    )
  where
    longer : length (es ++ more) ≡ length es + length more → length es ≤ length (es ++ more)
    longer h = omega (arith, h)

accounted_for : (t : Network) (es : List JournalEntry) (ps : List (List ℕ)) → IsLawful t → IsLawfulJournal t es ps → length ps ≡ injections es
    → (s : Sending) → IsSent es ps s
    → IsAccountedFor t es ps s (verdict_on (packets_of t es ps) s.packet) (path_of (packets_of t es ps) s.packet)
accounted_for t es ps lawful journal each s sent =
    let k = known_at_end t es ps lawful journal s sent in
    let whole : packets_at t es ps (length es) ≡ packets_of t es ps = packets_whole t es ps (length es) (omega arith) in
    record {
      fate = fate_of t es ps s sent (verdict_on (packets_of t es ps) s.packet) (subst (λ q. FateIs t es ps s (length es) (verdict_on q s.packet)) whole k.fate);
      way = subst (λ q. IsItsPath t s.site (verdict_on q s.packet) (path_of q s.packet)) whole k.way;
      stays = λ ended more later. stays t es more ps later s sent each ended;
    }

-- 3. All packets

one_copy : (k : Packets) (copy : ℕ) → AreNumbered k → 1 ≤ copy → copy ≤ k.copies → (p : ℕ) × IsOneCopy k copy p
one_copy k copy h low high =
    let p = h.each copy low high in
    (p.0, record { there = p.1; copied = p.2; alone = λ other below copied. h.once copy other p.0 below p.1 copied p.2 })

pub accounts : (t : Network) (es : List JournalEntry) (ps : List (List ℕ)) → IsLawful t → IsLawfulJournal t es ps → length ps ≡ injections es → Accounts t es ps
accounts t es ps lawful journal each = record {
  one_place = in_one_place t es ps;
  sent = λ packet h. sent_of es ps packet each h;
  accounted = accounted_for t es ps lawful journal each;
  as_many = as_many t es ps;
  copies = λ copy low high. one_copy (packets_of t es ps) copy (numbered t es ps) low (omega (arith, high, as_many t es ps));
}

-- 4. What flies

attaches_later : (t : Network) (es : List JournalEntry) (m more site : ℕ)
    → (world_at t es m).config.attaches site ≤ (world_at t es (more + m)).config.attaches site
attaches_later t es m zero site = subst (λ n. (world_at t es m).config.attaches site ≤ (world_at t es n).config.attaches site) (none m) (omega arith)
  where
    none : (m : ℕ) → m ≡ 0 + m
    none m = omega arith
attaches_later t es m (suc more) site =
    subst (λ n. (world_at t es m).config.attaches site ≤ (world_at t es n).config.attaches site) (next more m)
    (step (slice_get es (more + m)) refl (attaches_later t es m more site))
  where
    next : (n m : ℕ) → suc (n + m) ≡ suc n + m
    next n m = omega arith

    out : (xs : List JournalEntry) (i : ℕ) → slice_get xs i ≡ None → length xs ≤ i
    out [] i h = omega arith
    out (x ∷ xs) zero h = cc
    out (x ∷ xs) (suc i) h = omega (arith, out xs i h)

    step : (o : Option JournalEntry) → slice_get es (more + m) ≡ o
        → (world_at t es m).config.attaches site ≤ (world_at t es (more + m)).config.attaches site
        → (world_at t es m).config.attaches site ≤ (world_at t es (suc (more + m))).config.attaches site
    step (Some e) there h =
        omega (
          arith,
          h,
          attaches_grow (world_at t es (more + m)).config e.step site,
          ap (λ (w : World). w.config.attaches site)
              (world_step t es (more + m) e there),
        )
    step None there h =
        omega (
          arith,
          h,
          ap (λ xs. (world_of t xs).config.attaches site)
              (take_all (more + m) es (out es (more + m) there) ∙ sym (take_all (suc (more + m)) es (past (out es (more + m) there)))),
        )
      where
        past : length es ≤ more + m → length es ≤ suc (more + m)
        past g = omega (arith, g)

edge_at : (t : Network) (v : ℕ) → v < length t.vrfs → is_edge t.vrfs (edge_of t v) ≡ true
edge_at t v h = at t.vrfs v (record { node = record { 0 = 0 }; rd = record { 0 = 0 }; «import» = []; export = [] }) h
  where
    or_right : (a b : Bool) → b ≡ true → (a || b) ≡ true
    or_right true b h = refl
    or_right false b h = h

    at : (vs : List VrfDef) (i : ℕ) (d : VrfDef) → i < length vs → is_edge vs (slice_index_or vs i d).node.0 ≡ true
    at [] i d h = absurd (none_below i h)
    at (x ∷ xs) zero d h = ap (λ b. b || is_edge xs x.node.0) (same_test x.node.0)
    at (x ∷ xs) (suc i) d h = or_right ((slice_index_or xs i d).node.0 == x.node.0) (is_edge xs (slice_index_or xs i d).node.0) (at xs i d (omega (arith, h)))

-- the frame of a packet that flies
frame_good : (t : Network) (es : List JournalEntry) (ps : List (List ℕ)) (s : Sending) (l : LinkNo) → IsLawful t → IsSent es ps s
    → IsLawfulJournal t es ps → (k : IsKnown t es ps s (length es)) → (f : Flies t es ps s (length es) l) → s.packet < length (packets_of t es ps).verdicts
    → ((i : ℕ) → slice_index s.bytes i < 256) → (tick : ℕ)
    → IsGoodFrame t (world_at t es (length es)).config (packets_of t es ps) l.0 (frame_of s f.route (path_of (packets_at t es ps (length es)) s.packet) tick)
frame_good t es ps s l lawful sent journal k f inside bytes tick =
    let fine : IsTrue (good s.bytes) = f.bound.is_good in
    let holds : HoldsSites t es = sites_held t lawful es ps journal in
    let before : s.place < length es = slice_get_within es s.place sent.entry sent.there in
    let site = holds s.place s.site f.route (within before) (site_there t lawful es ps journal holds s sent)
    (in_contained (routes_at t (world_at t es s.place) s.site) f.route f.bound.is_held) in
    record {
      link = f.there;
      packet = inside;
      edge = subst (λ n. is_edge t.vrfs n ≡ true) f.home (edge_at t (vrf_of t f.route.site) (vrf_there t f.route.site lawful site.site));
      site = site.site;
      home = f.home;
      first = site.first;
      given = omega (arith, site.given, later before);
      is_good = good-aged s.bytes 1 bytes fine;
      whole = length-aged s.bytes 1 (IsGood-from_good s.bytes fine) ∙ sym (total_length-aged s.bytes 1 (IsGood-from_good s.bytes fine));
      pushed = ttl_of-aged s.bytes 1 (IsGood-from_good s.bytes fine);
      lives = omega (arith, f.left);
      lowered = lowered k.way.rest k.way.begins;
      bounded = omega (arith, bytes 8);
    }
  where
    within : s.place < length es → s.place ≤ length es
    within h = omega (arith, h)

    back : s.place < length es → length es - s.place + s.place ≡ length es
    back h = omega (arith, h)

    later : s.place < length es → (world_at t es s.place).config.attaches f.route.site ≤ (world_at t es (length es)).config.attaches f.route.site
    later h = subst (λ n. (world_at t es s.place).config.attaches f.route.site ≤ (world_at t es n).config.attaches f.route.site) (back h)
        (attaches_later t es s.place (length es - s.place) f.route.site)

    lowered : (rest : List ℕ) → path_of (packets_at t es ps (length es)) s.packet ≡ home_of t s.site ∷ rest
        → ttl_of s.bytes - length (path_of (packets_at t es ps (length es)) s.packet) ≤ ttl_of s.bytes - 1
    lowered rest h = omega (arith, ap length h)

pub frames_good : (t : Network) (es : List JournalEntry) (ps : List (List ℕ)) → IsLawful t → IsLawfulJournal t es ps → length ps ≡ injections es
    → AreBytes ps → FramesAreGood t (world_of t es) (packets_of t es ps)
frames_good t es ps lawful journal each bytes l d token c = on_link (packets_whole t es ps (length es) (omega arith))
    (in_contained (flying_on (packets_of t es ps) l d) token c)
  where
    on_link : packets_at t es ps (length es) ≡ packets_of t es ps → In ((packets_of t es ps).flying (channel l d)) token
        → IsGoodFrame t (world_of t es).config (packets_of t es ps) l token
    on_link whole i =
        let one = in_one_place t es ps in
        let is : verdict_on (packets_of t es ps) token.packet ≡ Flying (record { 0 = l }) d = where_it_flies (packets_of t es ps) (injections es)
        (record { 0 = l }) d token one i in
        let inside : token.packet < length (packets_of t es ps).verdicts = flying_inside (packets_of t es ps) token.packet (record { 0 = l }) d is in
        let s = sent_of es ps token.packet each (subst (λ n. token.packet < n) one.verdicts inside) in
        let k = known_at_end t es ps lawful journal s.0 s.2 in
        let flies : verdict_on (packets_at t es ps (length es)) s.0.packet ≡ Flying (record { 0 = l }) d = ap (λ q. verdict_on q s.0.packet) whole
        ∙ ap (verdict_on (packets_of t es ps)) s.1 ∙ is in
        let f : Flies t es ps s.0 (length es) (record { 0 = l }) = subst (FateIs t es ps s.0 (length es)) flies k.fate in
        let frame : Token = frame_of s.0 f.route (path_of (packets_at t es ps (length es)) s.0.packet) token.sent in
        let same : token ≡ frame = f.frames (channel l d) token (subst (λ q. In (q.flying (channel l d)) token) (sym whole) i) (sym s.1) in
        subst (IsGoodFrame t (world_of t es).config (packets_of t es ps) l) (sym {a = token} {b = frame} same)
        (subst (λ (w : World). IsGoodFrame t w.config (packets_of t es ps) l frame) (world_whole t es (length es) (omega arith))
        (frame_good t es ps s.0 (record { 0 = l }) lawful s.2 journal k f (subst (λ j. j < length (packets_of t es ps).verdicts) (sym s.1) inside)
        (bytes s.0.packet s.0.bytes s.2.content) token.sent))
