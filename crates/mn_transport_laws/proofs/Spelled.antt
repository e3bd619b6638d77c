-- What a node puts into flight is, on each channel, the spelling of what it says there.
use Rattle.std.proofs.Common.{ℕ, suc, ◌≡◌, ◌≢◌, ◌+◌, ◌*◌, ◌<◌, inl, inr, Bool, true, false, cond, List, [], ◌∷◌, ◌++◌, map, filter, length, drop, ◌≤◌, refl}
use Rattle.std.proofs.Common.{arith, sym, ◌∙◌, ap, subst, Option, None, Some}
use Rattle.std.specs.Prelude.{◌==◌, ◌&&◌, ◌||◌, option_map, if◌then◌else◌, ⊤}
use Rattle.std.proofs.lemmas.Bool.Decides.{eqb_tells, leb_tells}
use Rattle.std.proofs.lemmas.List.{get_or-set_same, get_or-set_other, get_or_past, drop-append-le}
use Rattle.mn_base.proofs.Bools.{same_test, other_test, same_numbers, and_false}
use Rattle.mn_wiring.specs.Wiring.{Wiring, link, is_end, across, sender, EndsDiffer}
use Rattle.mn_wiring.specs.declared.links.Dir.{Dir}
use Rattle.mn_wiring.specs.declared.links.Dir.TheVariants.{Forth, Back}
use Rattle.mn_flight.specs.declared.Item.{Item}
use Rattle.mn_flight.specs.Flying.{on_channel}
use Rattle.mn_node.specs.Ldp.{Message, Initialization, KeepAlive, Address, Mapping, Withdraw, Release, Said, is_by, messages_of}
use Rattle.mn_node.specs.Node.{Session, Node, session_at}
use Rattle.mn_node.specs.Machine.{with_count}
use Rattle.mn_ldp_session.specs.Spelling.{Pdu, pdu, pdu_in_network, count_of, one_said, pdus}
use Rattle.mn_ledger.specs.Packets.{channel}
use Rattle.mn_timetable_laws.specs.Keys.{channel_from}
use Rattle.mn_transport_laws.specs.Sending.{put_pdus, spelled}
use Rattle.mn_transport_laws.proofs.Own.{IsOwn, AllOwn}

-- 1. Channels

-- an end's channel of a link is a direction's channel where the link is the same, and the end is the one that sends there
numbers_apart : (k l : ℕ) (b : Bool) (dir : Dir) → k ≢ l → ((if b then 2 * k else 2 * k + 1) == channel l dir) ≡ false
numbers_apart k l true Forth d = other_test (2 * k) (2 * l) (λ e. d (omega (arith, e)))
numbers_apart k l false Forth d = other_test (2 * k + 1) (2 * l) (λ e. d (omega (arith, e)))
numbers_apart k l true Back d = other_test (2 * k) (2 * l + 1) (λ e. d (omega (arith, e)))
numbers_apart k l false Back d = other_test (2 * k + 1) (2 * l + 1) (λ e. d (omega (arith, e)))

even_odd : (l : ℕ) → (2 * l == 2 * l + 1) ≡ false
even_odd l = other_test (2 * l) (2 * l + 1) (λ e. absurd (omega (arith, e)))

odd_even : (l : ℕ) → (2 * l + 1 == 2 * l) ≡ false
odd_even l = other_test (2 * l + 1) (2 * l) (λ e. absurd (omega (arith, e)))

-- what an end sends flies in the direction in which it is the sender
pub sends-here : (w : Wiring) (l me : ℕ) (dir : Dir) → (link w l).a.0 ≢ (link w l).b.0 → sender w l dir ≡ me → (channel_from w l me == channel l dir) ≡ true
sends-here w l me Forth d e = ap (λ b. (if b then 2 * l else 2 * l + 1) == 2 * l) (ap (λ a. me == a) e ∙ same_test me) ∙ same_test (2 * l)
sends-here w l me Back d e =
    ap (λ b. (if b then 2 * l else 2 * l + 1) == 2 * l + 1) (other_test me (link w l).a.0 (λ q. d (sym q ∙ sym e))) ∙ same_test (2 * l + 1)

-- and in no other
pub sends-there : (w : Wiring) (l me : ℕ) (dir : Dir) → is_end w l me ≡ true → sender w l dir ≢ me → (channel_from w l me == channel l dir) ≡ false
sends-there w l me Forth e d = ap (λ b. (if b then 2 * l else 2 * l + 1) == 2 * l) (other_test me (link w l).a.0 (λ q. d (sym q))) ∙ odd_even l
sends-there w l me Back e d = ap (λ b. (if b then 2 * l else 2 * l + 1) == 2 * l + 1) (ap (λ a. me == a) first ∙ same_test me) ∙ even_odd l
  where
    first : (link w l).a.0 ≡ me
    first = same_numbers (link w l).a.0 me (left ((link w l).a.0 == me) (sym (ap (λ b. ((link w l).a.0 == me) || b) (other_test (link w l).b.0 me d)) ∙ e))
      where
        left : (b : Bool) → (b || false) ≡ true → b ≡ true
        left true h = refl
        left false h = h

pub other-link : (w : Wiring) (k l me : ℕ) (dir : Dir) → k ≢ l → (channel_from w k me == channel l dir) ≡ false
other-link w k l me dir d = numbers_apart k l (me == (link w k).a.0) dir d

-- 2. A Release brings the label that is withdrawn

-- each Release is of the label that the far end gave
abbrev pub IsReleaseOf : Wiring → (ℕ → ℕ → ℕ) → ℕ → ℕ → ℕ → Message → Type 0
IsReleaseOf w g me l wd (Release fec) = g (across w l me) fec ≡ wd
IsReleaseOf w g me l wd _ = ⊤

abbrev pub AllReleases : Wiring → (ℕ → ℕ → ℕ) → ℕ → ℕ → List Said → Type 0
AllReleases w g me wd [] = ⊤
AllReleases w g me wd (x ∷ xs) = IsReleaseOf w g me x.link wd x.message × AllReleases w g me wd xs

pdu-is : (w : Wiring) (g : ℕ → ℕ → ℕ) (l me wd id : ℕ) (m : Message) → IsReleaseOf w g me l wd m →
    pdu w l me (g me) wd id m ≡ pdu_in_network w l me (g me) (g (across w l me)) id m
pdu-is w g l me wd id Initialization h = refl
pdu-is w g l me wd id KeepAlive h = refl
pdu-is w g l me wd id Address h = refl
pdu-is w g l me wd id (Mapping fec) h = refl
pdu-is w g l me wd id (Withdraw fec) h = refl
pdu-is w g l me wd id (Release fec) h = ap (λ label. pdu w l me (g me) label id (Release fec)) (sym h)

-- 3. Counts

-- a session in which one message more is sent has sent one more
counted : (o : Option Session) → o ≢ None → count_of (option_map (with_count 1) o) ≡ count_of o + 1
counted None h = absurd (h refl)
counted (Some s) h = refl

within : (n : Node) (l : ℕ) → session_at n l ≢ None → l < length n.sessions
within n l h = elim (leb_tells (length n.sessions) l) [ inl p ↦ absurd (h (get_or_past n.sessions l None p.1)) | inr p ↦ p.1 ]

said-here : (n : Node) (l : ℕ) → session_at n l ≢ None → count_of (session_at (one_said n l) l) ≡ count_of (session_at n l) + 1
said-here n l h = ap count_of (get_or-set_same n.sessions l (option_map (with_count 1) (session_at n l)) None (within n l h)) ∙ counted (session_at n l) h

said-off : (n : Node) (k l : ℕ) → k ≢ l → session_at (one_said n k) l ≡ session_at n l
said-off n k l d = get_or-set_other n.sessions k l (option_map (with_count 1) (session_at n k)) None (λ e. d (sym e))

still : (n : Node) (k l : ℕ) → session_at n k ≢ None → session_at n l ≢ None → session_at (one_said n k) l ≢ None
still n k l a b none = elim (eqb_tells k l) [
  | inl p ↦ more_there (session_at n k) a (sym (get_or-set_same n.sessions k (option_map (with_count 1) (session_at n k)) None (within n k a))
      ∙ ap (session_at (one_said n k)) p.1 ∙ none)
  | inr p ↦ b (sym (said-off n k l p.1) ∙ none)
]
  where
    more_there : (o : Option Session) → o ≢ None → option_map (with_count 1) o ≡ None → ⊥
    more_there None h e = h refl
    more_there (Some s) h e = cc

own-still : (w : Wiring) (n : Node) (me k : ℕ) (xs : List Said) → session_at n k ≢ None → AllOwn w n me xs → AllOwn w (one_said n k) me xs
own-still w n me k [] a h = tt
own-still w n me k (x ∷ xs) a h =
    (record { by = h.0.by; there = h.0.there; at_end = h.0.at_end; lives = still n k x.link a h.0.lives }, own-still w n me k xs a h.1)

-- 4. On a channel

abbrev pub bytes_on : ℕ → List (Item (List ℕ)) → List (List ℕ)
bytes_on c items = map (λ item. item.item) (on_channel c items)

bytes-here : (c : ℕ) (x : Item (List ℕ)) (xs : List (Item (List ℕ))) → (x.channel == c) ≡ true → bytes_on c (x ∷ xs) ≡ x.item ∷ bytes_on c xs
bytes-here c x xs e = ap (λ b. map (λ (item : Item (List ℕ)). item.item) (cond b (x ∷ on_channel c xs) (on_channel c xs))) e

bytes-off : (c : ℕ) (x : Item (List ℕ)) (xs : List (Item (List ℕ))) → (x.channel == c) ≡ false → bytes_on c (x ∷ xs) ≡ bytes_on c xs
bytes-off c x xs e = ap (λ b. map (λ (item : Item (List ℕ)). item.item) (cond b (x ∷ on_channel c xs) (on_channel c xs))) e

pub bytes-append : (c : ℕ) (xs ys : List (Item (List ℕ))) → bytes_on c (xs ++ ys) ≡ bytes_on c xs ++ bytes_on c ys
bytes-append c [] ys = refl
bytes-append c (x ∷ xs) ys = by (x.channel == c) (bytes-append c xs ys)
  where
    by : (b : Bool) → bytes_on c (xs ++ ys) ≡ bytes_on c xs ++ bytes_on c ys
        → map (λ (item : Item (List ℕ)). item.item) (cond b (x ∷ on_channel c (xs ++ ys)) (on_channel c (xs ++ ys))) ≡ map
        (λ (item : Item (List ℕ)). item.item) (cond b (x ∷ on_channel c xs) (on_channel c xs)) ++ bytes_on c ys
    by true e = ap (λ bs. x.item ∷ bs) e
    by false e = e

messages-here : (l node : ℕ) (x : Said) (xs : List Said) → is_by l node x ≡ true → messages_of l node (x ∷ xs) ≡ x.message ∷ messages_of l node xs
messages-here l node x xs e = ap (λ b. map (λ (said : Said). said.message) (cond b (x ∷ filter (is_by l node) xs) (filter (is_by l node) xs))) e

messages-off : (l node : ℕ) (x : Said) (xs : List Said) → is_by l node x ≡ false → messages_of l node (x ∷ xs) ≡ messages_of l node xs
messages-off l node x xs e = ap (λ b. map (λ (said : Said). said.message) (cond b (x ∷ filter (is_by l node) xs) (filter (is_by l node) xs))) e

by-me : (x : Said) (me : ℕ) → x.end ≡ me → is_by x.link me x ≡ true
by-me x me e = ap (λ b. b && (x.end == me)) (same_test x.link) ∙ ap (λ m. m == me) e ∙ same_test me

-- a node's message on a link stands behind those that it sent there
mine-here : (w : Wiring) (g : ℕ → ℕ → ℕ) (me : ℕ) (dir : Dir) (tick number wd : ℕ) (n : Node) (x : Said) (xs : List Said) → n.me ≡ me →
    (link w x.link).a.0 ≢ (link w x.link).b.0 → sender w x.link dir ≡ me
    → IsOwn w n me x → IsReleaseOf w g me x.link wd x.message
    → bytes_on (channel x.link dir) (put_pdus w me tick (number + 1) (pdus w (g me) wd (one_said n x.link) xs)) ≡ spelled w g x.link me
    (count_of (session_at (one_said n x.link) x.link) + 1) (messages_of x.link me xs)
    → bytes_on (channel x.link dir) (put_pdus w me tick number (pdus w (g me) wd n (x ∷ xs))) ≡ spelled w g x.link me (count_of (session_at n x.link) + 1)
    (messages_of x.link me (x ∷ xs))
mine-here w g me dir tick number wd n x xs mine differ sends own rel rest =
    let c : ℕ = channel x.link dir in
    let id : ℕ = count_of (session_at n x.link) + 1 in
    let others : List (Item (List ℕ)) = put_pdus w me tick (number + 1) (pdus w (g me) wd (one_said n x.link) xs) in
    bytes-here c (record {
      channel = channel_from w x.link me;
      due = tick + (link w x.link).delay;
      number = number;
      item =
          (pdu w x.link n.me (g me) wd id x.message).bytes;
    }) others (sends-here w x.link me dir differ sends)
    ∙ ap (λ (p : Pdu). p.bytes ∷ bytes_on c others) (ap (λ m. pdu w x.link m (g me) wd id x.message) mine ∙ pdu-is w g x.link me wd id x.message rel)
    ∙ ap (λ bs. (pdu_in_network w x.link me (g me) (g (across w x.link me)) id x.message).bytes ∷ bs)
    (rest ∙ ap (λ k. spelled w g x.link me (k + 1) (messages_of x.link me xs)) (said-here n x.link own.lives))
    ∙ sym (ap (spelled w g x.link me id) (messages-here x.link me x xs (by-me x me own.by)))

-- the first PDU isn't on this channel
first-off : (w : Wiring) (g : ℕ → ℕ → ℕ) (l me : ℕ) (dir : Dir) (tick number wd : ℕ) (n : Node) (x : Said) (xs : List Said) →
    (channel_from w x.link me == channel l dir) ≡ false → bytes_on (channel l dir) (put_pdus w me tick number (pdus w (g me) wd n (x ∷ xs)))
    ≡ bytes_on (channel l dir) (put_pdus w me tick (number + 1) (pdus w (g me) wd (one_said n x.link) xs))
first-off w g l me dir tick number wd n x xs =
    bytes-off (channel l dir) (record {
      channel = channel_from w x.link me;
      due = tick + (link w x.link).delay;
      number = number;
      item = (pdu w x.link n.me (g me) wd (count_of (session_at n x.link) + 1) x.message).bytes;
    })
    (put_pdus w me tick (number + 1) (pdus w (g me) wd (one_said n x.link) xs))

mine-off : (w : Wiring) (g : ℕ → ℕ → ℕ) (l me : ℕ) (dir : Dir) (tick number wd : ℕ) (n : Node) (x : Said) (xs : List Said) → x.link ≢ l
    → bytes_on (channel l dir) (put_pdus w me tick (number + 1) (pdus w (g me) wd (one_said n x.link) xs)) ≡ spelled w g l me
    (count_of (session_at (one_said n x.link) l) + 1) (messages_of l me xs)
    → bytes_on (channel l dir) (put_pdus w me tick number (pdus w (g me) wd n (x ∷ xs))) ≡ spelled w g l me (count_of (session_at n l) + 1)
    (messages_of l me (x ∷ xs))
mine-off w g l me dir tick number wd n x xs d rest =
    first-off w g l me dir tick number wd n x xs (other-link w x.link l me dir d)
    ∙ rest
    ∙ ap (λ (o : Option Session). spelled w g l me (count_of o + 1) (messages_of l me xs)) (said-off n x.link l d)
    ∙ sym (ap (spelled w g l me (count_of (session_at n l) + 1)) (messages-off l me x xs (ap (λ b. b && (x.end == me)) (other_test x.link l d))))

-- where the node is the one that sends there, what it says on the link
pub spelled-mine : (w : Wiring) (g : ℕ → ℕ → ℕ) (l me : ℕ) (dir : Dir) (tick number wd : ℕ) (n : Node) (xs : List Said) → n.me ≡ me → EndsDiffer w →
    sender w l dir ≡ me
    → AllOwn w n me xs → AllReleases w g me wd xs
    → bytes_on (channel l dir) (put_pdus w me tick number (pdus w (g me) wd n xs)) ≡ spelled w g l me (count_of (session_at n l) + 1) (messages_of l me xs)
spelled-mine w g l me dir tick number wd n [] mine differ sends own rel = refl
spelled-mine w g l me dir tick number wd n (x ∷ xs) mine differ sends own rel =
    elim (eqb_tells x.link l) [
      | inl p ↦ subst (λ k. sender w k dir ≡ me →
          bytes_on (channel k dir) (put_pdus w me tick number (pdus w (g me) wd n (x ∷ xs))) ≡ spelled w g k me (count_of (session_at n k) + 1)
          (messages_of k me (x ∷ xs))) p.1
          (λ at. mine-here w g me dir tick number wd n x xs mine (differ x.link own.0.there) at own.0 rel.0
          (spelled-mine w g x.link me dir tick (number + 1) wd (one_said n x.link) xs mine differ at (own-still w n me x.link xs own.0.lives own.1) rel.1))
          sends
      | inr p ↦ mine-off w g l me dir tick number wd n x xs p.1
          (spelled-mine w g l me dir tick (number + 1) wd (one_said n x.link) xs mine differ sends (own-still w n me x.link xs own.0.lives own.1) rel.1)
    ]

-- and else nothing
pub spelled-not : (w : Wiring) (g : ℕ → ℕ → ℕ) (l me : ℕ) (dir : Dir) (tick number wd : ℕ) (n : Node) (xs : List Said) → sender w l dir ≢ me → AllOwn w n me xs
    → bytes_on (channel l dir) (put_pdus w me tick number (pdus w (g me) wd n xs)) ≡ []
spelled-not w g l me dir tick number wd n [] d own = refl
spelled-not w g l me dir tick number wd n (x ∷ xs) d own =
    first-off w g l me dir tick number wd n x xs
    (elim (eqb_tells x.link l) [
      | inl p ↦ subst (λ k. sender w k dir ≢ me → (channel_from w x.link me == channel k dir) ≡ false) p.1 (λ e. sends-there w x.link me dir own.0.at_end e) d
      | inr p ↦ other-link w x.link l me dir p.1
    ])
    ∙ spelled-not w g l me dir tick (number + 1) wd (one_said n x.link) xs d (own-still w n me x.link xs own.0.lives own.1)

-- it says nothing there
pub none-of-mine : (w : Wiring) (l s me : ℕ) (n : Node) (xs : List Said) → s ≢ me → AllOwn w n me xs → messages_of l s xs ≡ []
none-of-mine w l s me n [] d own = refl
none-of-mine w l s me n (x ∷ xs) d own =
    messages-off l s x xs (ap (λ b. (x.link == l) && b) (ap (λ m. m == s) own.0.by ∙ other_test me s (λ e. d (sym e))) ∙ and_false (x.link == l))
    ∙ none-of-mine w l s me n xs d own.1

-- 5. What flies

pub length-spelled : (w : Wiring) (g : ℕ → ℕ → ℕ) (l s id : ℕ) (ms : List Message) → length (spelled w g l s id ms) ≡ length ms
length-spelled w g l s id [] = refl
length-spelled w g l s id (m ∷ ms) = ap suc (length-spelled w g l s (id + 1) ms)

pub spelled-append : (w : Wiring) (g : ℕ → ℕ → ℕ) (l s id : ℕ) (ms more : List Message) →
    spelled w g l s id (ms ++ more) ≡ spelled w g l s id ms ++ spelled w g l s (id + length ms) more
spelled-append w g l s id [] more = ap (λ k. spelled w g l s k more) (omega arith)
spelled-append w g l s id (m ∷ ms) more =
    ap (λ bs. (pdu_in_network w l s (g s) (g (across w l s)) id m).bytes ∷ bs)
    (spelled-append w g l s (id + 1) ms more ∙ ap (λ k. spelled w g l s (id + 1) ms ++ spelled w g l s k more) (omega arith))

-- what flies in a direction is the spelling of what was sent and not received
abbrev pub FliesAs : Wiring → (ℕ → ℕ → ℕ) → ℕ → Dir → ℕ → List Message → List (Item (List ℕ)) → Type 0
FliesAs w g l dir heard said items = bytes_on (channel l dir) items ≡ drop heard (spelled w g l (sender w l dir) 1 said)

-- and once a node has sent more it is so of all
pub flies-on : (w : Wiring) (g : ℕ → ℕ →
    ℕ) (l me : ℕ) (dir : Dir) (tick number wd heard : ℕ) (said : List Message) (n : Node) (xs : List Said) (items : List (Item (List ℕ)))
    → n.me ≡ me → EndsDiffer w → AllOwn w n me xs → AllReleases w g me wd xs → heard ≤ length said →
    (sender w l dir ≡ me → messages_of l me xs ≢ [] → count_of (session_at n l) ≡ length said)
    → FliesAs w g l dir heard said items →
    FliesAs w g l dir heard (said ++ messages_of l (sender w l dir) xs) (items ++ put_pdus w me tick number (pdus w (g me) wd n xs))
flies-on w g l me dir tick number wd heard said n xs items mine differ own rel within count flies =
    bytes-append (channel l dir) items (put_pdus w me tick number (pdus w (g me) wd n xs))
    ∙ ap (λ bs. bs ++ bytes_on (channel l dir) (put_pdus w me tick number (pdus w (g me) wd n xs))) flies
    ∙ ap (λ bs. drop heard (spelled w g l (sender w l dir) 1 said) ++ bs) more
    ∙ sym (drop-append-le heard (spelled w g l (sender w l dir) 1 said) (spelled w g l (sender w l dir) (1 + length said) (messages_of l (sender w l dir) xs))
    (omega (arith, within, length-spelled w g l (sender w l dir) 1 said)))
    ∙ ap (drop heard) (sym (spelled-append w g l (sender w l dir) 1 said (messages_of l (sender w l dir) xs)))
  where
    by-list : (ms : List Message) →
        (ms ≢ [] → count_of (session_at n l) ≡ length said) → spelled w g l me (count_of (session_at n l) + 1) ms ≡ spelled w g l me (1 + length said) ms
    by-list [] h = refl
    by-list (m ∷ ms) h = ap (λ k. spelled w g l me k (m ∷ ms)) (let e = h (λ q. cons_nil q) in omega (arith, e))
      where
        cons_nil : m ∷ ms ≡ [] → ⊥
        cons_nil q = cc

    more : bytes_on (channel l dir) (put_pdus w me tick number (pdus w (g me) wd n xs)) ≡ spelled w g l (sender w l dir) (1 + length said)
        (messages_of l (sender w l dir) xs)
    more = elim (eqb_tells (sender w l dir) me) [
      | inl p ↦ spelled-mine w g l me dir tick number wd n xs mine differ p.1 own rel ∙ by-list (messages_of l me xs) (count p.1)
          ∙ ap (λ s. spelled w g l s (1 + length said) (messages_of l s xs)) (sym p.1)
      | inr p ↦ spelled-not w g l me dir tick number wd n xs p.1 own
          ∙ sym (ap (spelled w g l (sender w l dir) (1 + length said)) (none-of-mine w l (sender w l dir) me n xs p.1 own))
    ]
