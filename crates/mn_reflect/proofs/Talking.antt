-- Sessions begin, end and hear, part by part.
use Rattle.std.proofs.Common.{ℕ, ◌≡◌, ◌≢◌, Bool, true, false, List, [], ◌∷◌, refl, sym, ap, ◌∙◌, subst, Option, Some, None}
use Rattle.std.specs.Prelude.{slice_get, slice_set, slice_index_or, if◌then◌else◌}
use Rattle.std.specs.List.{AllByRecursion}
use Rattle.std.proofs.lemmas.List.{get_or-set_other}
use Rattle.mn_states.specs.declared.states.BgpState.TheVariants.{OpenSent, OpenConfirm, Established}
use Rattle.mn_bgp_wire.specs.declared.message.BgpMessage.{BgpMessage}
use Rattle.mn_bgp_session.specs.declared.session.BgpSession.{BgpSession}
use Rattle.mn_bgp_session.specs.declared.table.BgpReply.{BgpReply}
use Rattle.mn_bgp_spelling_laws.specs.Spelling.{Labels}
use Rattle.mn_pe.specs.Pe.{PeNow}
use Rattle.mn_edges.specs.Changes.{working}
use Rattle.mn_routing_laws.specs.Doing.{edge_or_blank}
use Rattle.mn_routing_laws.proofs.Turning.{get_other}
use Rattle.mn_reflect_ledger_laws.specs.Words.{Word, Open, KeepAlive, Announce, Withdraw}
use Rattle.mn_reflect_ledger_laws.specs.Picks.{is_reflector}
use Rattle.mn_pe.specs.Held as held
use Rattle.mn_reflect_world_laws.specs.Choice.{row_at, names_in, all_names}
use Rattle.mn_reflect_world_laws.specs.Letters.{open_letter, keep_letter, reflector_offers, edge_news}
use Rattle.mn_reflect_world_laws.specs.Now.{ReflectNow}
use Rattle.mn_reflect_world_laws.specs.Goes.{end_in, edge_of_node, decide_all, set_at}
use Rattle.mn_reflect_telling.specs.Passing.{IsPassable}
use Rattle.mn_reflect.specs.Doing.{with_end, with_letters, cut_between, begun, ended, forgotten, taken, MayTurn, MayHear, MayAnswer, IsNext, IsFirst}
use Rattle.mn_reflect.specs.Doing.{reply_of, next_of, answered, offered_all, word_heard}
use Rattle.mn_reflect.proofs.Tables.{row_other}

-- 1. A session begins

pub begins_so : (a b : ℕ) (now one two cut said last : ReflectNow) (first second : BgpSession) → first ≡ end_in now.topology a b OpenSent →
    second ≡ end_in now.topology b a OpenSent → one ≡ with_end a b (Some first) now → two ≡ with_end b a (Some second) one → cut ≡ cut_between a b two →
    said ≡ with_letters (open_letter cut.topology a b ∷ []) cut → last ≡ with_letters (open_letter said.topology b a ∷ []) said → last ≡ begun a b now
begins_so a b now one two cut said last first second f s h1 h2 h3 h4 h5 =
    h5 ∙ ap (λ (x : ReflectNow). with_letters (open_letter x.topology b a ∷ []) x)
    (h4 ∙ ap (λ (x : ReflectNow). with_letters (open_letter x.topology a b ∷ []) x)
    (h3 ∙ ap (cut_between a b)
    (h2 ∙ ap (λ (x : ReflectNow). with_end b a (Some second) x) (h1 ∙ ap (λ (end : BgpSession). with_end a b (Some end) now) f)
    ∙ ap (λ (end : BgpSession). with_end b a (Some end) (with_end a b (Some (end_in now.topology a b OpenSent)) now)) s)))

-- 2. It ends

abbrev pub cut_off : ℕ → ℕ → ReflectNow → ReflectNow
cut_off a b now = cut_between a b (with_end b a None (with_end a b None now))

pub cut_so : (a b : ℕ) (now one two cut : ReflectNow) → one ≡ with_end a b None now → two ≡ with_end b a None one → cut ≡ cut_between a b two →
    cut ≡ cut_off a b now
cut_so a b now one two cut h1 h2 h3 = h3 ∙ ap (cut_between a b) (h2 ∙ ap (with_end b a None) h1)

-- a node that may turn still may
pub still_turns : (now : ReflectNow) (a b node : ℕ) → MayTurn now node → MayTurn (cut_off a b now) node
still_turns now a b node h = record { rows = h.rows; edge = h.edge; addresses = h.addresses }

pub still_hears : (now : ReflectNow) (peer node at : ℕ) (end : Option BgpSession) → MayHear now at → MayHear (with_end node peer end (taken peer node now)) at
still_hears now peer node at end h = record { turn = record { rows = h.turn.rows; edge = h.turn.edge; addresses = h.turn.addresses }; says = h.says }

pub turns_then : (now : ReflectNow) (peer node at : ℕ) → MayTurn now at → MayTurn (taken peer node now) at
turns_then now peer node at h = record { rows = h.rows; edge = h.edge; addresses = h.addresses }

module _ (now : ReflectNow) (a b : ℕ) (apart : a ≢ b) where
  back : b ≢ a
  back e = apart (sym e)

  stays : {X : Type 0} (look : List (Option PeNow) → X) → ((change : Option PeNow) → look (slice_set now.edges a change) ≡ look now.edges) →
      look (forgotten a b now).edges ≡ look now.edges
  stays look same = by (is_reflector now.reflectors a) (Some (working (decide_all now.topology now.reflectors (row_at (set_at a b [] now.heard) a) a
      (names_in (row_at now.heard a b)) (edge_of_node now.edges a))))
    where
      by : (is : Bool) (change : Option PeNow) → look (if is then now.edges else slice_set now.edges a change) ≡ look now.edges
      by true change = refl
      by false change = same change

  same_at : slice_index_or (forgotten a b now).edges b None ≡ slice_index_or now.edges b None
  same_at = stays (λ edges. slice_index_or edges b None) (λ change. get_or-set_other now.edges a b change None back)

  -- one forgets, and the other still may turn
  pub other_turns : MayTurn now b → MayTurn (forgotten a b now) b
  other_turns h = record {
    rows = subst (λ row. AllByRecursion (λ routes. AllByRecursion (IsPassable now.topology) routes) row) (sym (row_other a b [] now.heard b back)) h.rows;
    edge = λ isnt. stays (λ edges. slice_get edges b) (λ change. get_other now.edges a b change apart) ∙ h.edge isnt
        ∙ ap (λ (o : Option PeNow). Some (Some (working (edge_or_blank o)))) (sym same_at);
    addresses = λ isnt. ap (λ (o : Option PeNow). (edge_or_blank o).loopbacks) same_at ∙ h.addresses isnt;
  }

pub ends_so : (a b : ℕ) (now cut one last : ReflectNow) → cut ≡ cut_off a b now → one ≡ forgotten a b cut → last ≡ forgotten b a one → last ≡ ended a b now
ends_so a b now cut one last h1 h2 h3 = h3 ∙ ap (forgotten b a) (h2 ∙ ap (forgotten a b) h1)

-- 3. What no UPDATE says is received

pub hears_first : (labels : Labels) (peer node : ℕ) (now mid new last : ReflectNow) (reply : BgpReply) (message : BgpMessage) (word : Word) →
    IsFirst now.topology peer message word → mid ≡ taken peer node now →
    new ≡ with_end node peer (Some (end_in mid.topology node peer (next_of word))) mid → reply ≡ reply_of word → last ≡ answered node peer reply new →
    last ≡ word_heard labels peer node word now
hears_first labels peer node now mid new last reply message Open is m h r l =
    l ∙ ap (λ x. answered node peer x new) r
    ∙ ap (λ (x : ReflectNow). with_letters (keep_letter node peer ∷ []) x)
    (h ∙ ap (λ (x : ReflectNow). with_end node peer (Some (end_in x.topology node peer OpenConfirm)) x) m)
hears_first labels peer node now mid new last reply message KeepAlive is m h r l =
    l ∙ ap (λ x. answered node peer x new) r
    ∙ ap (λ (x : ReflectNow). offered_all node peer x)
    (h ∙ ap (λ (x : ReflectNow). with_end node peer (Some (end_in x.topology node peer Established)) x) m)
hears_first labels peer node now mid new last reply message (Announce offer) is m h r l = absurd is
hears_first labels peer node now mid new last reply message (Withdraw key) is m h r l = absurd is

pub answers_then : (labels : Labels) (peer node : ℕ) (now mid : ReflectNow) (message : BgpMessage) (word : Word) → mid ≡ taken peer node now →
    IsNext labels now peer node word → IsFirst now.topology peer message word → MayAnswer mid peer node message
answers_then labels peer node now mid message word m next is =
    subst (λ x. MayAnswer x peer node message) (sym m)
    (let a : MayAnswer (taken peer node now) peer node message = record { word = word; first = is; turn = next.turn } in a)

pub hears_then : (peer node : ℕ) (now mid new : ReflectNow) (message : BgpMessage) (word : Word) → mid ≡ taken peer node now →
    IsFirst now.topology peer message word →
    ((v : Word) → IsFirst mid.topology peer message v → new ≡ with_end node peer (Some (end_in mid.topology node peer (next_of v))) mid) → MayHear now node →
    MayHear new node
hears_then peer node now mid new message word m is h may =
    subst (λ x. MayHear x node)
    (sym (h word (subst (λ (x : ReflectNow). IsFirst x.topology peer message word) (sym m) is)
    ∙ ap (λ (x : ReflectNow). with_end node peer (Some (end_in x.topology node peer (next_of word))) x) m))
    (still_hears now peer node node (Some (end_in now.topology node peer (next_of word))) may)

-- nodes stay
pub stays_there : (peer node : ℕ) (now mid new : ReflectNow) (message : BgpMessage) (word : Word) → mid ≡ taken peer node now →
    IsFirst now.topology peer message word →
    ((v : Word) → IsFirst mid.topology peer message v → new ≡ with_end node peer (Some (end_in mid.topology node peer (next_of v))) mid) →
    new.topology ≡ now.topology
stays_there peer node now mid new message word m is h =
    ap (λ (x : ReflectNow). x.topology) (h word (subst (λ (x : ReflectNow). IsFirst x.topology peer message word) (sym m) is))
    ∙ ap (λ (x : ReflectNow). x.topology) m

-- 4. What is offered a peer

module _ (now last : ReflectNow) (node peer : ℕ) where
  pub reflector_offers_all : is_reflector now.reflectors node ≡ true →
      last ≡ with_letters (reflector_offers now.topology now.reflectors node peer (row_at now.heard node) (all_names (slice_index_or now.heard node []))) now →
      last ≡ offered_all node peer now
  reflector_offers_all is h = h ∙ sym (ap (λ b. with_letters (if b
      then reflector_offers now.topology now.reflectors node peer (row_at now.heard node) (all_names (slice_index_or now.heard node []))
      else edge_news now.topology node (record { 0 = peer } ∷ []) true (held.exports_of (edge_of_node now.edges node))) now) is)

  pub edge_offers_all : is_reflector now.reflectors node ≡ false →
      last ≡ with_letters (edge_news now.topology node (record { 0 = peer } ∷ []) true (held.exports_of (edge_of_node now.edges node))) now →
      last ≡ offered_all node peer now
  edge_offers_all isnt h = h ∙ sym (ap (λ b. with_letters (if b
      then reflector_offers now.topology now.reflectors node peer (row_at now.heard node) (all_names (slice_index_or now.heard node []))
      else edge_news now.topology node (record { 0 = peer } ∷ []) true (held.exports_of (edge_of_node now.edges node))) now) isnt)
