-- The parts once a session has changed, its answers are sent, and the bindings are followed.
use Rattle.std.proofs.Common.{ℕ, ◌≡◌, Bool, true, false, cond, List, [], ◌∷◌, ◌++◌, length, refl, sym, ◌∙◌, ap, subst, append-nil, Option}
use Rattle.std.specs.Prelude.{◌&&◌, not}
use Rattle.std.specs.List.{flat_map, range_with_len}
use Rattle.std.proofs.lemmas.List.{append_assoc}
use Rattle.mn_labels.specs.Labels.{Labels, own_labels, offered}
use Rattle.mn_bindings.specs.declared.event.LibEvent.{LibEvent}
use Rattle.mn_bindings.specs.Bindings.{Bindings, after_events}
use Rattle.mn_bindings.specs.News.{begun_of, begun, ended_of, ended}
use Rattle.mn_bindings.specs.Known.{Known, is_free, owed_for, all_stopped, known_after}
use Rattle.mn_bindings.proofs.Ranges.{flat_none}
use Rattle.mn_bindings.specs.Bindings as lib
use Rattle.mn_bindings.specs.Tells.{tells, releases}
use Rattle.mn_node.specs.Ldp.{Message, Said, said_on}
use Rattle.mn_node.specs.Machine.{Event, changed, said}
use Rattle.mn_wiring.specs.Wiring.{Wiring}
use Rattle.mn_ldp_session.specs.declared.session.Reply.{Reply}
use Rattle.mn_ldp_session.specs.declared.session.Reply.TheVariants as says
use Rattle.mn_ldp_session.specs.Spelling.{Pdu, pdus}
use Rattle.mn_lsr.specs.Replies.{replied}
use Rattle.mn_lsr.specs.declared.parts.Open.{Open}
use Rattle.mn_lsr.specs.OwnEnds.{Listed}
use Rattle.mn_lsr.specs.declared.parts.Parts.{Parts}
use Rattle.mn_lsr.specs.Telling.{said_by_tell, MayTell}
use Rattle.mn_lsr.specs.Parts.{wiring_in, node_in, kept_of, SitesStay, Stands, MaySpeak, MayFollow, machines_of, pdus_by, ends_after, HasTold}
use Rattle.mn_lsr.proofs.Saying.{ends_after-append, length-ends_after}
use Rattle.mn_lsr.proofs.After.{Happens, IsThen, stands-then, kept-of, said-all, may-follow, length-machines, machines-after, no_tells}
use Rattle.mn_lsr.specs.Turns.{kept_then}

-- messages that bring no label are sent alike, whatever labels FECs have and whatever is withdrawn
no_label : (w : Wiring) (l me : ℕ) (own then_own : ℕ → ℕ) (withdrawn : ℕ) (ends : List (Option Open)) (reply : Reply) →
    pdus_by w me own 0 ends (said_on l me (replied reply)) ≡ pdus_by w me then_own withdrawn ends (said_on l me (replied reply))
no_label w l me own then_own withdrawn ends says.Nothing = refl
no_label w l me own then_own withdrawn ends says.Initialization = refl
no_label w l me own then_own withdrawn ends says.Both = refl
no_label w l me own then_own withdrawn ends says.KeepAlive = refl
no_label w l me own then_own withdrawn ends says.Begins = refl

-- nothing happens without events
none_begun_at : (b : Bindings) (fec : ℕ) → begun_of b b fec ≡ []
none_begun_at b fec = by (lib.offers b fec)
  where
    by : (x : Bool) → cond (not x && x) (fec ∷ []) [] ≡ []
    by true = refl
    by false = refl

none_ended_at : (b : Bindings) (fec : ℕ) → ended_of b b fec ≡ []
none_ended_at b fec = by (lib.offers b fec)
  where
    by : (x : Bool) → cond (x && not x) (fec ∷ []) [] ≡ []
    by true = refl
    by false = refl

pub none_begun : (b : Bindings) → begun b b ≡ []
none_begun b = flat_none (begun_of b b) (none_begun_at b) (range_with_len 0 (lib.nodes b))

pub known_none : (known : Known) (tick : ℕ) → known ≡ known_after known [] tick
known_none known tick =
    ap (λ fecs. let k : Known = record { bindings = known.bindings; resting = all_stopped tick known.resting fecs } in k)
    (sym (flat_none (ended_of known.bindings known.bindings) (none_ended_at known.bindings) (range_with_len 0 (lib.nodes known.bindings))))
    ∙ ap (λ ts. let k : Known = record {
      bindings = known.bindings;
      resting =
          all_stopped tick (owed_for known.resting ts) (ended known.bindings known.bindings);
    } in k)
    (sym (no_tells known.bindings))

-- the node once an event is over
pub record IsAfter (p r : Parts) (withdrawn tick : ℕ) (e : Event) (before after_it : List Pdu) : Type 0 where
  pub stands : Stands r
  pub kept : kept_of r ≡ kept_then (wiring_in p) tick (kept_of p) e
  pub said : after_it ≡ before ++ pdus (wiring_in p) (own_labels p.me.0 r.labels.labels) withdrawn (changed (wiring_in p) (node_in p) e)
      (said (wiring_in p) (node_in p) e)
  pub sites : SitesStay p r
  pub others : r ≡ record p { sessions = r.sessions; lib = r.lib; labels = r.labels; lfib = r.lfib }

module _ (p : Parts) (st : Stands p) (e : Event) (es : List LibEvent) (ends : List (Option Open)) (l : ℕ) (reply : Reply)
    (h : Happens p e p.view.counts es ends l (replied reply)) where
  abbrev pre : List Message
  pre = replied reply

  abbrev with_sessions : Listed → Parts
  with_sessions s = record p { sessions = s }

  ends-length : length ends ≡ length p.view.ends
  ends-length = sym (length-machines ends) ∙ h.own.one_each

  pub may-speak : (q : Parts) (s : Listed) → q ≡ record p { sessions = s } → s.items ≡ ends → MaySpeak q
  may-speak q s q_is s_is =
      subst MaySpeak (sym q_is) (record { few = st.wired.spelled.few; me = st.me; joins = st.wired.joins; one_each = ap length s_is ∙ ends-length })

  pub may-follow-then : (q : Parts) (s : Listed) (withdrawn : ℕ) → q ≡ record p { sessions = s } →
      s.items ≡ ends_after ends (said_on l p.me.0 (replied reply)) →
      ((labels : Labels) → MayTell (length p.loopbacks.items) p.me.0 labels withdrawn (releases es))
      → MayFollow q withdrawn es
  may-follow-then q s withdrawn q_is s_is may =
      subst (λ x. MayFollow x withdrawn es) (sym q_is)
      (may-follow p st e p.view.counts es ends l (replied reply) h p.view p.mended s withdrawn refl
      (ap length s_is ∙ length-ends_after ends (said_on l p.me.0 (replied reply)) ∙ ends-length) may)

  told : (s : Listed) (r : Parts) (withdrawn tick : ℕ) (own : ℕ → ℕ) (before middle after_it : List Pdu) →
      s.items ≡ ends_after ends (said_on l p.me.0 (replied reply))
      → middle ≡ before ++ pdus_by (wiring_in p) p.me.0 own 0 ends (said_on l p.me.0 (replied reply)) →
      HasTold (with_sessions s) r withdrawn tick es middle after_it →
      IsAfter p r withdrawn tick e before after_it
  told s r withdrawn tick own before middle after_it s_is m_is t =
      let new : ℕ → ℕ = own_labels p.me.0 r.labels.labels in
      let first : List Said = said_on l p.me.0 (replied reply) in
      let rest : List Said = flat_map (said_by_tell (wiring_in p) p.me.0) (tells p.lib.bindings es) in
      let counted : r.sessions.items ≡ ends_after ends (said_on l p.me.0 (replied reply) ++ flat_map (said_by_tell (wiring_in p) p.me.0)
      (tells p.lib.bindings es)) =
      t.counted ∙ ap (λ xs. ends_after xs (flat_map (said_by_tell (wiring_in p) p.me.0) (tells p.lib.bindings es))) s_is
      ∙ sym (ends_after-append ends (said_on l p.me.0 (replied reply)) (flat_map (said_by_tell (wiring_in p) p.me.0) (tells p.lib.bindings es))) in
      let is : IsThen p st e p.view.counts es ends l (replied reply) h tick p.view r.sessions r.lib r.labels =
      record { view_is = refl; known_is = t.known; ends_are = counted; labels_are = t.labels } in
      record {
        stands = subst Stands (sym t.others)
            (stands-then p st e p.view.counts es ends l (replied reply) h tick p.view p.mended r.sessions r.lib r.labels r.lfib is refl st.mended t.have
            t.table);
        kept = ap kept_of t.others ∙ kept-of p st e p.view.counts es ends l (replied reply) h tick p.view p.mended r.sessions r.lib r.labels r.lfib is;
        said = t.said ∙ ap (λ xs. xs ++ pdus_by (wiring_in p) p.me.0 new withdrawn s.items rest) m_is
            ∙ ap (λ xs. (before ++ xs) ++ pdus_by (wiring_in p) p.me.0 new withdrawn s.items rest)
            (no_label (wiring_in p) l p.me.0 own new withdrawn ends reply)
            ∙ ap (λ xs. (before ++ pdus_by (wiring_in p) p.me.0 new withdrawn ends first) ++ pdus_by (wiring_in p) p.me.0 new withdrawn xs rest) s_is
            ∙ append_assoc before (pdus_by (wiring_in p) p.me.0 new withdrawn ends first)
            (pdus_by (wiring_in p) p.me.0 new withdrawn (ends_after ends first) rest)
            ∙ ap (λ xs. before ++ xs) (said-all p st e p.view.counts es ends l (replied reply) h new withdrawn);
        sites = t.sites;
        others = t.others;
      }

  -- what was sent first has its PDUs, and then what is told
  pub after-all : (q : Parts) (s : Listed) (r : Parts) (withdrawn tick : ℕ) (own : ℕ → ℕ) (before middle after_it : List Pdu) →
      q ≡ record p { sessions = s } → s.items ≡ ends_after ends (said_on l p.me.0 (replied reply))
      → middle ≡ before ++ pdus_by (wiring_in p) p.me.0 own 0 ends (said_on l p.me.0 (replied reply)) → HasTold q r withdrawn tick es middle after_it →
      IsAfter p r withdrawn tick e before after_it
  after-all q s r withdrawn tick own before middle after_it q_is s_is m_is t =
      told s r withdrawn tick own before middle after_it s_is m_is (subst (λ x. HasTold x r withdrawn tick es middle after_it) q_is t)

  pub machines-then : (q : Parts) (s : Listed) (r : Parts) (withdrawn tick : ℕ) (middle after_it : List Pdu) → q ≡ record p { sessions = s } →
      s.items ≡ ends_after ends (said_on l p.me.0 (replied reply)) → HasTold q r withdrawn tick es middle after_it
      → machines_of r.sessions.items ≡ machines_of ends
  machines-then q s r withdrawn tick middle after_it q_is s_is t =
      ap machines_of
      (t.counted ∙ ap (λ xs. ends_after xs (flat_map (said_by_tell (wiring_in q) q.me.0) (tells q.lib.bindings es))) (ap (λ x. x.sessions.items) q_is ∙ s_is))
      ∙ machines-after (ends_after ends (said_on l p.me.0 (replied reply))) (flat_map (said_by_tell (wiring_in q) q.me.0) (tells q.lib.bindings es))
      ∙ machines-after ends (said_on l p.me.0 (replied reply))

-- without events nothing is told
pub none-told : (p : Parts) → Stands p →
    (s : Listed) (withdrawn tick : ℕ) (said : List Pdu) →
    HasTold (record p { sessions = s }) (record p { sessions = s }) withdrawn tick [] said said
none-told p st s withdrawn tick said = record {
  said = sym (ap (λ ts. said ++ pdus_by (wiring_in p) p.me.0 (own_labels p.me.0 p.labels.labels) withdrawn s.items
      (flat_map (said_by_tell (wiring_in p) p.me.0) ts))
      (no_tells p.lib.bindings) ∙ append-nil said);
  counted = sym (ap (λ ts. ends_after s.items (flat_map (said_by_tell (wiring_in p) p.me.0) ts)) (no_tells p.lib.bindings));
  known = known_none p.lib tick;
  labels = sym (ap (offered (is_free p.lib tick) p.labels.labels) (none_begun p.lib.bindings));
  have = st.labels;
  table = st.table;
  sites = λ label is. (refl, refl);
  others = refl;
}

pub none-before : (before after_it x : List Pdu) → before ≡ [] → after_it ≡ before ++ x → after_it ≡ x
none-before before after_it x e f = f ∙ ap (λ b. b ++ x) e

-- the node once it has sent its answers, where the bindings stay
pub after-said : (p : Parts) (st : Stands p) (e : Event) (ends : List (Option Open)) (l : ℕ) (reply : Reply) →
    Happens p e p.view.counts [] ends l (replied reply) → (q : Parts) (withdrawn tick : ℕ) (own : ℕ → ℕ) (before middle : List Pdu)
    → q ≡ record p { sessions = q.sessions } → q.sessions.items ≡ ends_after ends (said_on l p.me.0 (replied reply)) →
    middle ≡ before ++ pdus_by (wiring_in p) p.me.0 own 0 ends (said_on l p.me.0 (replied reply)) → IsAfter p q withdrawn tick e before middle
after-said p st e ends l reply h q withdrawn tick own before middle q_is s_is m_is =
    after-all p st e [] ends l reply h q q.sessions q withdrawn tick own before middle middle q_is s_is m_is
    (subst (λ x. HasTold x x withdrawn tick [] middle middle) (sym q_is) (none-told p st q.sessions withdrawn tick middle))

-- what a reply leaves
pub record IsReplied (p q : Parts) (ends : List (Option Open)) (l : ℕ) (reply : Reply) (before after_it : List Pdu) : Type 0 where
  pub parts : q ≡ record p { sessions = q.sessions }
  pub ends_are : q.sessions.items ≡ ends_after ends (said_on l p.me.0 (replied reply))
  pub pdus_are : after_it ≡ before ++ pdus_by (wiring_in p) p.me.0 (own_labels p.me.0 p.labels.labels) 0 ends (said_on l p.me.0 (replied reply))

pub replied-then : (p q r : Parts) (ends : List (Option Open)) (l : ℕ) (reply : Reply) (before after_it : List Pdu) →
    q ≡ record p { sessions = q.sessions } → q.sessions.items ≡ ends
    → after_it ≡ before ++ pdus_by (wiring_in q) q.me.0 (own_labels q.me.0 q.labels.labels) 0 q.sessions.items (said_on l q.me.0 (replied reply)) →
    r.sessions.items ≡ ends_after q.sessions.items (said_on l q.me.0 (replied reply)) → r ≡ record q { sessions = r.sessions }
    → IsReplied p r ends l reply before after_it
replied-then p q r ends l reply before after_it q_is s_is said counted others = record {
  parts = others ∙ ap (λ x. let o : Parts = record x { sessions = r.sessions } in o) q_is;
  ends_are =
      counted ∙ ap (λ x. ends_after q.sessions.items (said_on l x.me.0 (replied reply))) q_is
      ∙ ap (λ xs. ends_after xs (said_on l p.me.0 (replied reply))) s_is;
  pdus_are =
      said ∙ ap (λ x. before ++ pdus_by (wiring_in x) x.me.0 (own_labels x.me.0 x.labels.labels) 0 q.sessions.items (said_on l x.me.0 (replied reply))) q_is
      ∙ ap (λ xs. before ++ pdus_by (wiring_in p) p.me.0 (own_labels p.me.0 p.labels.labels) 0 xs (said_on l p.me.0 (replied reply))) s_is;
}
