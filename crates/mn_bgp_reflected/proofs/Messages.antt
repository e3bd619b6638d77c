-- A reflected UPDATE, as it is read and as it is spelled.
use Rattle.std.proofs.Common.{◌≡◌, ◌≢◌, ◌≤◌, ◌<◌, ◌%◌, ◌^◌, ℕ, Bool, true, false, cond, ◌==◌, ◌||◌, not, List, length, drop, Option, Some, None}
use Rattle.std.proofs.Common.{◌⊎◌, Result, Ok, Err}
use Rattle.std.proofs.Common.{refl, ap, sym, ◌∙◌, subst, arith}
use Rattle.std.specs.Prelude.{IfOk}
use Rattle.byteorder.specs.Endian.{big_number}
use Rattle.mn_vpn_nlri.specs.Reading.{IsBytes}
use Rattle.mn_base.proofs.Bytes.{IsBytes-drop}
use Rattle.mn_base.specs.Found.{◌>>=◌}
use Rattle.mn_bgp_wire.specs.Says.{Says}
use Rattle.mn_bgp_wire.specs.Grammar.{PathAttribute, IsUpdate, IsBgp, kind_of, value_of, update_kind, message_bytes, attributes_bytes}
use Rattle.mn_bgp_wire.specs.Grammar.{update_body}
use Rattle.mn_bgp_wire.specs.Reading.{body_of, attributes_of, attributes_in, message_of}
use Rattle.mn_bgp_wire.specs.declared.message.BgpMessage.{BgpMessage}
use Rattle.mn_bgp_wire.specs.declared.message.BgpMessage.TheVariants as messages
use Rattle.mn_bgp_wire.specs.declared.refusal.BgpWireBad.{BgpWireBad}
use Rattle.mn_bgp_wire.specs.declared.refusal.BgpWireBad.TheVariants as wire
use Rattle.mn_bgp_wire.specs.Reading.{Fails as WireFails}
use Rattle.mn_bgp_wire.proofs.Results.{done_is as wire_is}
use Rattle.mn_bgp_wire.proofs.Listed.{list_again, value_fits}
use Rattle.mn_bgp_wire.proofs.Messages.{message_is_read, read_is_message}
use Rattle.mn_bgp_reflected.specs.Says.{SaysReflected}
use Rattle.mn_bgp_reflected.specs.Grammar.{originator_kind, cluster_kind, attributes_of_update as attributes_by, SayOriginator, IsReflected}
use Rattle.mn_bgp_reflected.specs.Reading.{after, said_of, refusal_by, update_in, originator_of, addresses_of, clusters_of, reflected_of, Answers, Fails}
use Rattle.mn_bgp_reflected.specs.declared.refusal.ReflectedBad.{ReflectedBad}
use Rattle.mn_bgp_reflected.specs.declared.refusal.ReflectedBad.TheVariants.{Wire, NotUpdate, BadOriginator, BadClusters, NoMemory}
use Rattle.mn_bgp_reflected.proofs.Values.{done, done_is, originator_again, originator_takes, originator_refused, clusters_again, clusters_takes}
use Rattle.mn_bgp_reflected.proofs.Values.{clusters_refused}

-- 1. The attributes of an UPDATE

spelled : (bytes : List ℕ) (says : Says) (is : IsBgp bytes (messages.Update says)) →
    bytes ≡ message_bytes update_kind (update_body (attributes_bytes (attributes_by bytes says is)))
spelled bytes says is = let update : IsUpdate is.body says = is.is_body in is.whole ∙ ap (message_bytes update_kind) update.are_attributes.whole

pub body_is : (bytes : List ℕ) (says : Says) (is : IsBgp bytes (messages.Update says)) →
    body_of bytes ≡ update_body (attributes_bytes (attributes_by bytes says is))
body_is bytes says is = ap body_of (spelled bytes says is)

short : (bytes : List ℕ) (says : Says) (is : IsBgp bytes (messages.Update says)) → length (attributes_bytes (attributes_by bytes says is)) < 2 ^ 16
short bytes says is =
    let within = is.within in
    let size = ap length (spelled bytes says is) in
    omega arith

pub are_in_body : (bytes : List ℕ) (says : Says) (is : IsBgp bytes (messages.Update says)) → attributes_in (body_of bytes) ≡ Some (attributes_by bytes says is)
are_in_body bytes says is = ap attributes_in (body_is bytes says is) ∙ list_again (attributes_by bytes says is) (short bytes says is)

pub said_is : (kind : ℕ) (bytes : List ℕ) (says : Says) (is : IsBgp bytes (messages.Update says)) →
    said_of kind (body_of bytes) ≡ value_of kind (attributes_by bytes says is)
said_is kind bytes says is = ap (λ (o : Option (List PathAttribute)). o >>= value_of kind) (are_in_body bytes says is)

guarded : {X : Type 0} (b : Bool) (o : Option X) (x : X) → cond b None o ≡ Some x → o ≡ Some x
guarded true o x e = absurd cc
guarded false o x e = e

behind : (body : List ℕ) (attributes : List PathAttribute) → attributes_in body ≡ Some attributes → attributes_of (drop 4 body) ≡ Some attributes
unfolding attributes_in
behind body attributes e = guarded _ (attributes_of (drop 4 body)) attributes e

-- they begin at byte 23
pub are_at : (bytes : List ℕ) (says : Says) (is : IsBgp bytes (messages.Update says)) → attributes_of (drop 23 bytes) ≡ Some (attributes_by bytes says is)
are_at bytes says is =
    let all = attributes_by bytes says is in
    ap (λ (xs : List ℕ). attributes_of (drop 23 xs)) (spelled bytes says is)
    ∙ behind (update_body (attributes_bytes all)) all (list_again all (short bytes says is))

pub long : (bytes : List ℕ) (says : Says) → IsBgp bytes (messages.Update says) → 23 ≤ length bytes
long bytes says is = let size = ap length (spelled bytes says is) in omega arith

values_fit : (kind : ℕ) (bytes : List ℕ) (says : Says) (is : IsBgp bytes (messages.Update says)) → IsBytes bytes →
    (value : List ℕ) → value_of kind (attributes_by bytes says is) ≡ Some value → IsBytes value
values_fit kind bytes says is fits value e =
    let all : IsBytes (attributes_bytes (attributes_by bytes says is)) = IsBytes-drop 23 _ (subst IsBytes (spelled bytes says is) fits) in
    value_fits kind (attributes_by bytes says is) value all e

-- 2. What is spelled so is read, and what is read is spelled so

update_again : (r : Result BgpMessage BgpWireBad) (says : Says) → r ≡ Ok (messages.Update says) → update_in r ≡ Ok says
unfolding update_in
update_again r says e = ap update_in e

update_takes : (r : Result BgpMessage BgpWireBad) (says : Says) → update_in r ≡ Ok says → r ≡ Ok (messages.Update says)
unfolding update_in
update_takes (Err bad) says e = absurd cc
update_takes (Ok (messages.Update other)) says e = ap (λ (s : Says). Ok (messages.Update s)) (done_is other says e)
update_takes (Ok (messages.Opening version asn hold id vpn)) says e = absurd cc
update_takes (Ok (messages.Notification code subcode)) says e = absurd cc
update_takes (Ok messages.KeepAlive) says e = absurd cc

-- what is read, step by step
pub read_by : (bytes : List ℕ) (update : Result Says ReflectedBad) (originator : Result (Option ℕ) ReflectedBad) (clusters : Result (List ℕ) ReflectedBad) →
    update_in (message_of bytes) ≡ update → originator_of (said_of originator_kind (body_of bytes)) ≡ originator →
    clusters_of (said_of cluster_kind (body_of bytes)) ≡ clusters
    → reflected_of bytes ≡ after update (λ u. after originator (λ o. after clusters (λ cs. Ok (record { update = u; originator = o; clusters = cs }))))
unfolding reflected_of
read_by bytes update originator clusters u o c =
    ap (λ (r : Result Says ReflectedBad). after r (λ said. after (originator_of (said_of originator_kind (body_of bytes))) (λ from.
    after (clusters_of (said_of cluster_kind (body_of bytes))) (λ by. done (record { update = said; originator = from; clusters = by }))))) u
    ∙ ap (λ (r : Result (Option ℕ) ReflectedBad). after update (λ said. after r (λ from.
    after (clusters_of (said_of cluster_kind (body_of bytes))) (λ by. done (record { update = said; originator = from; clusters = by }))))) o
    ∙ ap (λ (r : Result (List ℕ) ReflectedBad). after update
    (λ said. after originator (λ from. after r (λ by. done (record { update = said; originator = from; clusters = by }))))) c

pub reflected_again : (bytes : List ℕ) (said : SaysReflected) → IsReflected bytes said → reflected_of bytes ≡ Ok said
reflected_again bytes said is =
    read_by bytes (Ok said.update) (Ok said.originator) (Ok said.clusters)
    (update_again (message_of bytes) said.update (message_is_read bytes (messages.Update said.update) is.is_update))
    (ap originator_of (said_is originator_kind bytes said.update is.is_update) ∙ originator_again _ said.originator is.originator)
    (ap clusters_of (said_is cluster_kind bytes said.update is.is_update) ∙ clusters_again _ said.clusters is.clusters)

pub one_reflected : (bytes : List ℕ) (said other : SaysReflected) → IsReflected bytes said → IsReflected bytes other → said ≡ other
one_reflected bytes said other is also = done_is said other (sym (reflected_again bytes said is) ∙ reflected_again bytes other also)

after_ok : {X Y : Type 0} (r : Result X ReflectedBad) (f : X → Result Y ReflectedBad) (y : Y) → after r f ≡ Ok y → (x : X) × (r ≡ Ok x) × (f x ≡ Ok y)
after_ok (Ok x) f y e = (x, refl, e)
after_ok (Err bad) f y e = absurd cc

by_parts : (bytes : List ℕ) (says : Says) (originator : Option ℕ) (clusters : List ℕ) → IsBytes bytes → update_in (message_of bytes) ≡ Ok says →
    originator_of (said_of originator_kind (body_of bytes)) ≡ Ok originator → clusters_of (said_of cluster_kind (body_of bytes)) ≡ Ok clusters →
    IsReflected bytes (record { update = says; originator = originator; clusters = clusters })
by_parts bytes says originator clusters fits u o c =
    let is = read_is_message bytes (messages.Update says) fits (update_takes (message_of bytes) says u) in
    record {
      is_update = is;
      originator = originator_takes (value_of originator_kind (attributes_by bytes says is)) originator (values_fit originator_kind bytes says is fits)
          (ap originator_of (sym (said_is originator_kind bytes says is)) ∙ o);
      clusters = clusters_takes (value_of cluster_kind (attributes_by bytes says is)) clusters (values_fit cluster_kind bytes says is fits)
          (ap clusters_of (sym (said_is cluster_kind bytes says is)) ∙ c);
    }

pub reflected_takes : (bytes : List ℕ) (said : SaysReflected) → IsBytes bytes → reflected_of bytes ≡ Ok said → IsReflected bytes said
unfolding reflected_of
reflected_takes bytes said fits e =
    let u = after_ok (update_in (message_of bytes)) _ said e in
    let o = after_ok (originator_of (said_of originator_kind (body_of bytes))) _ said u.2 in
    let c = after_ok (clusters_of (said_of cluster_kind (body_of bytes))) _ said o.2 in
    subst (IsReflected bytes) (done_is _ said c.2) (by_parts bytes u.0 o.0 c.0 fits u.1 o.1 c.1)

-- 3. What is refused

another_message : (message : BgpMessage) → kind_of message ≢ update_kind → update_in (Ok message) ≡ Err NotUpdate
unfolding update_in
another_message (messages.Update says) other = absurd (other refl)
another_message (messages.Opening version asn hold id vpn) other = refl
another_message (messages.Notification code subcode) other = refl
another_message messages.KeepAlive other = refl

pub refused_as_another : (bytes : List ℕ) (message : BgpMessage) → IsBgp bytes message → kind_of message ≢ update_kind → reflected_of bytes ≡ Err NotUpdate
refused_as_another bytes message is other =
    read_by bytes (Err NotUpdate) _ _ (ap update_in (message_is_read bytes message is) ∙ another_message message other) refl refl

is_read : (bytes : List ℕ) (says : Says) → IsBgp bytes (messages.Update says) → update_in (message_of bytes) ≡ Ok says
is_read bytes says is = update_again (message_of bytes) says (message_is_read bytes (messages.Update says) is)

pub refused_by_originator : (bytes : List ℕ) (says : Says) (is : IsBgp bytes (messages.Update says)) (value : List ℕ) →
    value_of originator_kind (attributes_by bytes says is) ≡ Some value → length value ≢ 4 → reflected_of bytes ≡ Err BadOriginator
refused_by_originator bytes says is value there other =
    read_by bytes (Ok says) (Err BadOriginator) _ (is_read bytes says is)
    (ap originator_of (said_is originator_kind bytes says is ∙ there) ∙ originator_refused value other) refl

pub refused_by_clusters : (bytes : List ℕ) (says : Says) (is : IsBgp bytes (messages.Update says)) (value : List ℕ) (originator : Option ℕ) →
    SayOriginator (value_of originator_kind (attributes_by bytes says is)) originator → value_of cluster_kind (attributes_by bytes says is) ≡ Some value →
    (length value ≡ 0) ⊎ (length value % 4 ≢ 0) → reflected_of bytes ≡ Err BadClusters
refused_by_clusters bytes says is value originator said there wrong =
    read_by bytes (Ok says) (Ok originator) (Err BadClusters) (is_read bytes says is)
    (ap originator_of (said_is originator_kind bytes says is) ∙ originator_again _ originator said)
    (ap clusters_of (said_is cluster_kind bytes says is ∙ there) ∙ clusters_refused value wrong)

-- 4. What a reader answers

answers_itself : {X : Type 0} (r : Result X ReflectedBad) → Answers r r
answers_itself (Ok x) = refl
answers_itself (Err NoMemory) = tt
answers_itself (Err (Wire bad)) = refl
answers_itself (Err NotUpdate) = refl
answers_itself (Err BadOriginator) = refl
answers_itself (Err BadClusters) = refl

-- of a message that was read
pub update_answers : (r : Result Says ReflectedBad) (bytes : List ℕ) (message : BgpMessage) → r ≡ update_in (Ok message) → message_of bytes ≡ Ok message →
    Answers r (update_in (message_of bytes))
update_answers r bytes message is read = subst (λ (s : Result Says ReflectedBad). Answers r s) (is ∙ ap update_in (sym read)) (answers_itself r)

pub update_found : (r : Result Says ReflectedBad) (bytes : List ℕ) (message : BgpMessage) → r ≡ update_in (Ok message) → IsBgp bytes message →
    IfOk r (λ says. IsBgp bytes (messages.Update says))
update_found (Ok says) bytes message e is =
    subst (IsBgp bytes) (wire_is message (messages.Update says) (update_takes (Ok message) says (sym e))) is
update_found (Err bad) bytes message e is = tt

never_of : (message : BgpMessage) → update_in (Ok message) ≡ Err (Wire wire.NoMemory) → ⊥
unfolding update_in
never_of (messages.Update says) e = cc
never_of (messages.Opening version asn hold id vpn) e = cc
never_of (messages.Notification code subcode) e = cc
never_of messages.KeepAlive e = cc

pub update_never : (r : Result Says ReflectedBad) (message : BgpMessage) → r ≡ update_in (Ok message) → r ≡ Err (Wire wire.NoMemory) → ⊥
update_never r message is e = never_of message (sym is ∙ e)

-- of a message that was refused
abbrev refused : {X : Type 0} → ReflectedBad → Result X ReflectedBad
refused bad = Err bad

pub refusal_answers : (bad : BgpWireBad) (r : Result BgpMessage BgpWireBad) → WireFails bad r → Fails (refusal_by bad) (update_in r)
unfolding update_in
refusal_answers wire.NoMemory r h = tt
refusal_answers wire.Short r h = ap update_in h
refusal_answers wire.BadMarker r h = ap update_in h
refusal_answers wire.BadLength r h = ap update_in h
refusal_answers wire.BadType r h = ap update_in h
refusal_answers wire.BadOpen r h = ap update_in h
refusal_answers wire.BadAttribute r h = ap update_in h
refusal_answers wire.MissingAttribute r h = ap update_in h

pub refusal_never : {X : Type 0} (bad : BgpWireBad) → refused {X = X} (refusal_by bad) ≡ Err (Wire wire.NoMemory) → ⊥
refusal_never wire.NoMemory e = cc
refusal_never wire.Short e = cc
refusal_never wire.BadMarker e = cc
refusal_never wire.BadLength e = cc
refusal_never wire.BadType e = cc
refusal_never wire.BadOpen e = cc
refusal_never wire.BadAttribute e = cc
refusal_never wire.MissingAttribute e = cc

-- all but out of memory are handed on
pub handed_on : (bad : BgpWireBad) → (bad ≡ wire.NoMemory → ⊥) → Wire bad ≡ refusal_by bad
handed_on wire.NoMemory h = absurd (h refl)
handed_on wire.Short h = refl
handed_on wire.BadMarker h = refl
handed_on wire.BadLength h = refl
handed_on wire.BadType h = refl
handed_on wire.BadOpen h = refl
handed_on wire.BadAttribute h = refl
handed_on wire.MissingAttribute h = refl

pub found_by : (r : Result SaysReflected ReflectedBad) (bytes : List ℕ) → IsBytes bytes → Answers r (reflected_of bytes) →
    IfOk r (λ said. IsReflected bytes said)
found_by (Ok said) bytes fits given = reflected_takes bytes said fits given
found_by (Err bad) bytes fits given = tt

-- what fails at a step fails with it
pub fails_on : {X Y : Type 0} (bad : ReflectedBad) (r : Result X ReflectedBad) (f : X → Result Y ReflectedBad) → Fails bad r → Fails bad (after r f)
fails_on {X = X} NoMemory r f h = tt
fails_on {X = X} (Wire bad) r f h = ap (λ (x : Result X ReflectedBad). after x f) h
fails_on {X = X} NotUpdate r f h = ap (λ (x : Result X ReflectedBad). after x f) h
fails_on {X = X} BadOriginator r f h = ap (λ (x : Result X ReflectedBad). after x f) h
fails_on {X = X} BadClusters r f h = ap (λ (x : Result X ReflectedBad). after x f) h

pub fails_so : {X : Type 0} (bad : ReflectedBad) (r : Result X ReflectedBad) → r ≡ Err bad → Fails bad r
fails_so bad r is = subst (Fails bad) (sym is) (answers_itself (Err bad))

pub fails_as : {X : Type 0} (bad : ReflectedBad) (r s : Result X ReflectedBad) → r ≡ s → Fails bad r → Fails bad s
fails_as bad r s same h = subst (Fails bad) same h

pub only_by : (r : Result SaysReflected ReflectedBad) (bytes : List ℕ) → Answers r (reflected_of bytes) →
    (said : SaysReflected) → IsReflected bytes said → Answers r (Ok said)
only_by (Ok found) bytes given said is = sym (reflected_again bytes said is) ∙ given
only_by (Err bad) bytes given said is = fails_as bad (reflected_of bytes) (done said) (reflected_again bytes said is) given

-- The value of a type, as it was looked for among the attributes
pub said_by : (kind : ℕ) (bytes rest : List ℕ) (says : Says) (is : IsBgp bytes (messages.Update says)) (value : Option (List ℕ)) → rest ≡ drop 23 bytes →
    ((all : List PathAttribute) → attributes_of rest ≡ Some all → value ≡ value_of kind all) → value ≡ said_of kind (body_of bytes)
said_by kind bytes rest says is value at looked =
    looked (attributes_by bytes says is) (ap attributes_of at ∙ are_at bytes says is) ∙ sym (said_is kind bytes says is)

pub read_whole : (bytes : List ℕ) (says : Says) (originator : Option ℕ) (clusters : List ℕ) (of_originator of_clusters : Option (List ℕ)) →
    update_in (message_of bytes) ≡ Ok says → of_originator ≡ said_of originator_kind (body_of bytes) → Ok originator ≡ originator_of of_originator →
    of_clusters ≡ said_of cluster_kind (body_of bytes) → clusters_of of_clusters ≡ Ok clusters →
    reflected_of bytes ≡ Ok (record { update = says; originator = originator; clusters = clusters })
read_whole bytes says originator clusters of_originator of_clusters u o_is o c_is c =
    read_by bytes (Ok says) (Ok originator) (Ok clusters) u (ap originator_of (sym o_is) ∙ sym o) (ap clusters_of (sym c_is) ∙ c)

pub read_no_originator : (bytes : List ℕ) (says : Says) (bad : ReflectedBad) (of_originator : Option (List ℕ)) →
    update_in (message_of bytes) ≡ Ok says → of_originator ≡ said_of originator_kind (body_of bytes) → Err bad ≡ originator_of of_originator →
    reflected_of bytes ≡ Err bad
read_no_originator bytes says bad of_originator u o_is o = read_by bytes (Ok says) (Err bad) _ u (ap originator_of (sym o_is) ∙ sym o) refl

pub read_no_clusters : (bytes : List ℕ) (says : Says) (originator : Option ℕ) (bad : ReflectedBad) (of_originator of_clusters : Option (List ℕ)) →
    update_in (message_of bytes) ≡ Ok says → of_originator ≡ said_of originator_kind (body_of bytes) → Ok originator ≡ originator_of of_originator →
    of_clusters ≡ said_of cluster_kind (body_of bytes) → Fails bad (clusters_of of_clusters) → Fails bad (reflected_of bytes)
read_no_clusters bytes says originator bad of_originator of_clusters u o_is o c_is c =
    fails_as bad _ (reflected_of bytes)
    (sym (read_by bytes (Ok says) (Ok originator) _ u (ap originator_of (sym o_is) ∙ sym o) refl))
    (fails_on bad (clusters_of (said_of cluster_kind (body_of bytes))) _ (subst (λ (v : Option (List ℕ)). Fails bad (clusters_of v)) c_is c))

pub read_no_update : (bytes : List ℕ) (bad : ReflectedBad) → Fails bad (update_in (message_of bytes)) → Fails bad (reflected_of bytes)
unfolding reflected_of
read_no_update bytes bad h = fails_on bad (update_in (message_of bytes)) _ h

-- Want of memory is never a fault of the message

never_by : {X : Type 0} (b : Bool) (x : X) (bad : ReflectedBad) → (bad ≡ Wire wire.NoMemory → ⊥) → cond b (done x) (Err bad) ≡ Err (Wire wire.NoMemory) → ⊥
never_by true x bad other e = cc
never_by false x bad other e = other (bad_is bad (Wire wire.NoMemory) e)
  where
    bad_is : {Y : Type 0} (one two : ReflectedBad) → refused {X = Y} one ≡ refused two → one ≡ two
    bad_is one two q = cc

originator_said : (value : Option (List ℕ)) → originator_of value ≡ Err (Wire wire.NoMemory) → ⊥
unfolding originator_of
originator_said None e = cc
originator_said (Some value) e = never_by (length value == 4) (Some (big_number 4 value)) BadOriginator (λ q. cc) e

pub originator_never : {X : Type 0} (bad : ReflectedBad) (value : Option (List ℕ)) → Err bad ≡ originator_of value →
    refused {X = X} bad ≡ Err (Wire wire.NoMemory) → ⊥
originator_never bad value is e = originator_said value (sym is ∙ ap (λ (b : ReflectedBad). Err b) (bad_of bad (Wire wire.NoMemory) e))
  where
    bad_of : {Y : Type 0} (one two : ReflectedBad) → refused {X = Y} one ≡ refused two → one ≡ two
    bad_of one two q = cc

clusters_said : (value : Option (List ℕ)) → clusters_of value ≡ Err (Wire wire.NoMemory) → ⊥
unfolding clusters_of
clusters_said None e = cc
clusters_said (Some value) e = by ((length value == 0) || not (length value % 4 == 0)) e
  where
    by : (b : Bool) → cond b (Err BadClusters) (done (addresses_of value)) ≡ Err (Wire wire.NoMemory) → ⊥
    by true q = cc
    by false q = cc

pub clusters_never : {X : Type 0} (bad : ReflectedBad) (value : Option (List ℕ)) → Fails bad (clusters_of value) →
    refused {X = X} bad ≡ Err (Wire wire.NoMemory) → ⊥
clusters_never NoMemory value h e = cc
clusters_never (Wire bad) value h e = clusters_said value (h ∙ ap (λ (b : BgpWireBad). Err (Wire b)) (wire_of bad wire.NoMemory e))
  where
    wire_of : {Y : Type 0} (one two : BgpWireBad) → refused {X = Y} (Wire one) ≡ refused (Wire two) → one ≡ two
    wire_of one two q = cc
clusters_never NotUpdate value h e = cc
clusters_never BadOriginator value h e = cc
clusters_never BadClusters value h e = cc
