-- What a node says and does goes by which FECs have labels, and not by which labels these are.
use Rattle.std.specs.Prelude.{ℕ, zero, suc, ◌≡◌, ◌+◌, List, [], ◌∷◌, ◌++◌, length, map, replicate, slice_index_or, slice_set, refl, Option, Some, None}
use Rattle.std.specs.Prelude.{option_map}
use Rattle.std.proofs.Common.{ap, sym, ◌∙◌, arith}
use Rattle.mn_wiring.specs.Wiring.{Wiring, across}
use Rattle.mn_node.specs.Ldp.{Message, Initialization, KeepAlive, Address, Mapping, Withdraw, Release, Said, messages_of, news, state_by}
use Rattle.mn_node.specs.Node.{Session, Node, session_at, mappings_from, hearing_in, knowledge_in}
use Rattle.mn_node.specs.Machine.{Event, Learns, Opens, Closes, Hears, labels_after, session_after, speaks_first, with_session, changed, answer_in, answers}
use Rattle.mn_node.specs.Machine.{said, with_count}
use Rattle.mn_node.specs.Machine.{counted_from, having_said, after_event}
use Rattle.mn_reuse_laws.specs.Relabelled.{Labelling, relabelled_from, session_with, sessions_with, node_with, label_with, event_with, GoesAlike}

-- 1. Labels of one session

same_mappings : (labels : ℕ → ℕ) (ls : List (Option ℕ)) (fec : ℕ) → mappings_from fec (relabelled_from labels fec ls) ≡ mappings_from fec ls
same_mappings labels [] fec = refl
same_mappings labels (None ∷ ls) fec = same_mappings labels ls (fec + 1)
same_mappings labels (Some x ∷ ls) fec = ap (λ ms. Mapping fec ∷ ms) (same_mappings labels ls (fec + 1))

set_some : (labels : ℕ → ℕ) (ls : List (Option ℕ)) (fec p x : ℕ) →
    relabelled_from labels fec (slice_set ls p (Some x)) ≡ slice_set (relabelled_from labels fec ls) p (Some (labels (fec + p)))
set_some labels [] fec p x = refl
set_some labels (None ∷ ls) fec zero x = ap (λ n. Some (labels n) ∷ relabelled_from labels (fec + 1) ls) (plus fec)
  where
    plus : (n : ℕ) → n ≡ n + 0
    plus n = omega arith
set_some labels (Some y ∷ ls) fec zero x = ap (λ n. Some (labels n) ∷ relabelled_from labels (fec + 1) ls) (plus fec)
  where
    plus : (n : ℕ) → n ≡ n + 0
    plus n = omega arith
set_some labels (None ∷ ls) fec (suc p) x = ap (λ zs. None ∷ zs) (set_some labels ls (fec + 1) p x)
    ∙ ap (λ n. None ∷ slice_set (relabelled_from labels (fec + 1) ls) p (Some (labels n))) (more fec p)
  where
    more : (n m : ℕ) → n + 1 + m ≡ n + suc m
    more n m = omega arith
set_some labels (Some y ∷ ls) fec (suc p) x = ap (λ zs. Some (labels fec) ∷ zs) (set_some labels ls (fec + 1) p x)
    ∙ ap (λ n. Some (labels fec) ∷ slice_set (relabelled_from labels (fec + 1) ls) p (Some (labels n))) (more fec p)
  where
    more : (n m : ℕ) → n + 1 + m ≡ n + suc m
    more n m = omega arith

set_none : (labels : ℕ → ℕ) (ls : List (Option ℕ)) (fec p : ℕ) →
    relabelled_from labels fec (slice_set ls p None) ≡ slice_set (relabelled_from labels fec ls) p None
set_none labels [] fec p = refl
set_none labels (None ∷ ls) fec zero = refl
set_none labels (Some y ∷ ls) fec zero = refl
set_none labels (None ∷ ls) fec (suc p) = ap (λ zs. None ∷ zs) (set_none labels ls (fec + 1) p)
set_none labels (Some y ∷ ls) fec (suc p) = ap (λ zs. Some (labels fec) ∷ zs) (set_none labels ls (fec + 1) p)

no_labels : (labels : ℕ → ℕ) (n fec : ℕ) → relabelled_from labels fec (replicate n None) ≡ replicate n None
no_labels labels zero fec = refl
no_labels labels (suc n) fec = ap (λ zs. None ∷ zs) (no_labels labels n (fec + 1))

heard_labels : (labels : ℕ → ℕ) (message : Message) (label : ℕ) (ls : List (Option ℕ))
    → labels_after (relabelled_from labels 0 ls) message (label_with labels message) ≡ relabelled_from labels 0 (labels_after ls message label)
heard_labels labels (Mapping fec) label ls = sym (set_some labels ls 0 fec label
    ∙ ap (λ n. slice_set (relabelled_from labels 0 ls) fec (Some (labels n))) (none fec))
  where
    none : (n : ℕ) → 0 + n ≡ n
    none n = omega arith
heard_labels labels (Withdraw fec) label ls = sym (set_none labels ls 0 fec)
heard_labels labels Initialization label ls = refl
heard_labels labels KeepAlive label ls = refl
heard_labels labels Address label ls = refl
heard_labels labels (Release fec) label ls = refl

heard_session : (labels : ℕ → ℕ) (message : Message) (label : ℕ) (session : Option Session)
    → option_map (session_after message (label_with labels message)) (option_map (session_with labels) session) ≡ option_map (session_with labels)
    (option_map (session_after message label) session)
heard_session labels message label None = refl
heard_session labels message label (Some session) =
    ap (λ ls. Some (record (session_after message label session) { labels = ls })) (heard_labels labels message label session.labels)

same_hearing : (labels : ℕ → ℕ) (session : Option Session) → hearing_in (option_map (session_with labels) session) ≡ hearing_in session
same_hearing labels None = refl
same_hearing labels (Some session) = ap (λ ms. record (hearing_in (Some session)) { messages = ms }) (same_mappings labels session.labels 0)

same_answer : (labels : ℕ → ℕ) (session : Option Session) (message : Message) →
    answer_in (option_map (session_with labels) session) message ≡ answer_in session message
same_answer labels None message = refl
same_answer labels (Some session) message = refl

-- 2. All sessions

module _ (wiring : Wiring) (given : Labelling) (me : ℕ) where
  same_hearings : (sessions : List (Option Session)) (l : ℕ) → map hearing_in (sessions_with wiring given me l sessions) ≡ map hearing_in sessions
  same_hearings [] l = refl
  same_hearings (session ∷ sessions) l =
      ap (λ h. h ∷ map hearing_in (sessions_with wiring given me (l + 1) sessions)) (same_hearing (given (across wiring l me)) session)
      ∙ ap (λ hs. hearing_in session ∷ hs) (same_hearings sessions (l + 1))

  at_link : (sessions : List (Option Session)) (l k : ℕ)
      → slice_index_or (sessions_with wiring given me l sessions) k None ≡ option_map (session_with (given (across wiring (l + k) me)))
      (slice_index_or sessions k None)
  at_link [] l k = refl
  at_link (session ∷ sessions) l zero = ap (λ n. option_map (session_with (given (across wiring n me))) session) (plus l)
    where
      plus : (n : ℕ) → n ≡ n + 0
      plus n = omega arith
  at_link (session ∷ sessions) l (suc k) = at_link sessions (l + 1) k
      ∙ ap (λ n. option_map (session_with (given (across wiring n me))) (slice_index_or sessions k None)) (more l k)
    where
      more : (n m : ℕ) → n + 1 + m ≡ n + suc m
      more n m = omega arith

  set_link : (sessions : List (Option Session)) (l k : ℕ) (session : Option Session)
      → sessions_with wiring given me l (slice_set sessions k session)
      ≡ slice_set (sessions_with wiring given me l sessions) k (option_map (session_with (given (across wiring (l + k) me))) session)
  set_link [] l k session = refl
  set_link (x ∷ xs) l zero session =
      ap (λ n. option_map (session_with (given (across wiring n me))) session ∷ sessions_with wiring given me (l + 1) xs) (plus l)
    where
      plus : (n : ℕ) → n ≡ n + 0
      plus n = omega arith
  set_link (x ∷ xs) l (suc k) session =
      ap (λ zs. option_map (session_with (given (across wiring l me))) x ∷ zs) (set_link xs (l + 1) k session)
      ∙ ap (λ n. option_map (session_with (given (across wiring l me))) x ∷ slice_set (sessions_with wiring given me (l + 1) xs) k
      (option_map (session_with (given (across wiring n me))) session)) (more l k)
    where
      more : (n m : ℕ) → n + 1 + m ≡ n + suc m
      more n m = omega arith

  count_one : (labels : ℕ → ℕ) (n : ℕ) (session : Option Session)
      → option_map (with_count n) (option_map (session_with labels) session) ≡ option_map (session_with labels) (option_map (with_count n) session)
  count_one labels n None = refl
  count_one labels n (Some session) = refl

  counted_all : (sayings : List Said) (sessions : List (Option Session)) (l : ℕ)
      → counted_from l me sayings (sessions_with wiring given me l sessions) ≡ sessions_with wiring given me l (counted_from l me sayings sessions)
  counted_all sayings [] l = refl
  counted_all sayings (session ∷ sessions) l =
      ap (λ s. s ∷ counted_from (l + 1) me sayings (sessions_with wiring given me (l + 1) sessions))
      (count_one (given (across wiring l me)) (length (messages_of l me sayings)) session)
      ∙ ap (λ ss. option_map (session_with (given (across wiring l me))) (option_map (with_count (length (messages_of l me sayings))) session) ∷ ss)
      (counted_all sayings sessions (l + 1))

-- 3. The node

pub same_knowledge : (wiring : Wiring) (given : Labelling) (node : Node) → knowledge_in (node_with wiring given node) ≡ knowledge_in node
same_knowledge wiring given node = ap (λ hs. record (knowledge_in node) { hearings = hs }) (same_hearings wiring given node.me node.sessions 0)

none_before : (n : ℕ) → 0 + n ≡ n
none_before n = omega arith

here : (wiring : Wiring) (given : Labelling) (node : Node) (l : ℕ) (session : Option Session)
    → with_session (node_with wiring given node) l (option_map (session_with (given (across wiring l node.me))) session) ≡ node_with wiring given
    (with_session node l session)
here wiring given node l session =
    ap (λ ss. record node { sessions = ss }) (sym (set_link wiring given node.me node.sessions 0 l session
    ∙ ap (λ n. slice_set (sessions_with wiring given node.me 0 node.sessions) l (option_map (session_with (given (across wiring n node.me))) session))
    (none_before l)))

at_node : (wiring : Wiring) (given : Labelling) (node : Node) (l : ℕ)
    → session_at (node_with wiring given node) l ≡ option_map (session_with (given (across wiring l node.me))) (session_at node l)
at_node wiring given node l = at_link wiring given node.me node.sessions 0 l
    ∙ ap (λ n. option_map (session_with (given (across wiring n node.me))) (session_at node l)) (none_before l)

pub changed_with : (wiring : Wiring) (given : Labelling) (node : Node) (event : Event)
    → changed wiring (node_with wiring given node) (event_with wiring given node.me event) ≡ node_with wiring given (changed wiring node event)
changed_with wiring given node (Learns l) = refl
changed_with wiring given node (Closes l) = here wiring given node l None
changed_with wiring given node (Opens l) =
    ap (λ ls. with_session (node_with wiring given node) l (Some (record { state = state_by (speaks_first wiring l node.me) 0; said = 0; labels = ls })))
    (sym (no_labels (given (across wiring l node.me)) (length wiring.loopbacks) 0))
    ∙ here wiring given node l (Some (record {
      state = state_by (speaks_first wiring l node.me) 0;
      said = 0;
      labels =
          replicate (length wiring.loopbacks) None;
    }))
changed_with wiring given node (Hears l message label) =
    ap (λ s. with_session (node_with wiring given node) l (option_map (session_after message (label_with (given (across wiring l node.me)) message)) s))
    (at_node wiring given node l)
    ∙ ap (with_session (node_with wiring given node) l) (heard_session (given (across wiring l node.me)) message label (session_at node l))
    ∙ here wiring given node l (option_map (session_after message label) (session_at node l))

same_answers : (wiring : Wiring) (given : Labelling) (node : Node) (event : Event)
    → answers wiring (node_with wiring given node) (event_with wiring given node.me event) ≡ answers wiring node event
same_answers wiring given node (Learns l) = refl
same_answers wiring given node (Opens l) = refl
same_answers wiring given node (Closes l) = refl
same_answers wiring given node (Hears l message label) =
    ap (λ ms. map (λ message. record { link = l; end = node.me; message = message }) ms)
    (ap (λ s. answer_in s message) (at_node wiring given node l) ∙ same_answer (given (across wiring l node.me)) (session_at node l) message)

pub said_with : (wiring : Wiring) (given : Labelling) (node : Node) (event : Event)
    → said wiring (node_with wiring given node) (event_with wiring given node.me event) ≡ said wiring node event
said_with wiring given node event =
    ap (λ xs. xs ++ news wiring (knowledge_in (node_with wiring given node))
    (knowledge_in (changed wiring (node_with wiring given node) (event_with wiring given node.me event))) node.me) (same_answers wiring given node event)
    ∙ ap (λ k. answers wiring node event ++ news wiring k
    (knowledge_in (changed wiring (node_with wiring given node) (event_with wiring given node.me event))) node.me) (same_knowledge wiring given node)
    ∙ ap (λ k. answers wiring node event ++ news wiring (knowledge_in node) k node.me)
    (ap knowledge_in (changed_with wiring given node event) ∙ same_knowledge wiring given (changed wiring node event))

changed_me : (wiring : Wiring) (node : Node) (event : Event) → (changed wiring node event).me ≡ node.me
changed_me wiring node (Learns l) = refl
changed_me wiring node (Opens l) = refl
changed_me wiring node (Closes l) = refl
changed_me wiring node (Hears l message label) = refl

pub after_with : (wiring : Wiring) (given : Labelling) (node : Node) (event : Event)
    → after_event wiring (node_with wiring given node) (event_with wiring given node.me event) ≡ node_with wiring given (after_event wiring node event)
after_with wiring given node event =
    ap (λ n. having_said n (said wiring (node_with wiring given node) (event_with wiring given node.me event))) (changed_with wiring given node event)
    ∙ ap (having_said (node_with wiring given (changed wiring node event))) (said_with wiring given node event)
    ∙ ap (λ ss. record (changed wiring node event) { sessions = ss })
    (counted_all wiring given (changed wiring node event).me (said wiring node event) (changed wiring node event).sessions 0)

pub goes_alike : (wiring : Wiring) (given : Labelling) (node : Node) (event : Event) → GoesAlike wiring given node event
goes_alike wiring given node event = record {
  knows = same_knowledge wiring given node;
  changes = changed_with wiring given node event;
  says = said_with wiring given node event;
  then_is = after_with wiring given node event;
}
