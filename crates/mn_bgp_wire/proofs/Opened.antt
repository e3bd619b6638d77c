-- The body of an OPEN, as it is read and as it is spelled.
use Rattle.std.proofs.Common.{◌≡◌, ◌≤◌, ◌==◌, ◌||◌, not, ℕ, Bool, true, false, cond, List, [], ◌∷◌, ◌++◌, length, drop, map, Option, Some, Ok, refl, ap}
use Rattle.std.proofs.Common.{sym, ◌∙◌, subst, arith, None, Result, Err}
use Rattle.std.specs.Prelude.{MatchBool, slice_index}
use Rattle.std.specs.Option.{option_map}
use Rattle.std.specs.List.{list_any, AllByRecursion}
use Rattle.std.proofs.lemmas.Bool.{eqb-true}
use Rattle.std.proofs.lemmas.Bool.Decides.{nat_tests}
use Rattle.byteorder.specs.Endian.{big_number, big_bytes}
use Rattle.mn_vpn_nlri.specs.Reading.{IsBytes}
use Rattle.mn_bgp_wire.specs.Items.{◌>>=◌}
use Rattle.mn_bgp_wire.specs.Grammar.{Field, field_bytes, fields_bytes, Parameter, HasCapabilities, capabilities_kind, is_vpn, offers_vpn, IsOpen, IsBody}
use Rattle.mn_bgp_wire.specs.Grammar.{kind_of, open_kind}
use Rattle.mn_bgp_wire.specs.Reading.{or_else, after, field_at, fields_of, vpn_among, vpn_in, vpn_in_some, vpn_offered, opening, open_of, version_of}
use Rattle.mn_bgp_wire.specs.declared.message.BgpMessage.{BgpMessage}
use Rattle.mn_bgp_wire.specs.declared.message.BgpMessage.TheVariants as messages
use Rattle.mn_bgp_wire.specs.declared.refusal.BgpWireBad.{BgpWireBad}
use Rattle.mn_bgp_wire.specs.declared.refusal.BgpWireBad.TheVariants.{BadOpen}
use Rattle.mn_bgp_wire.proofs.Bytes.{bytes-rest, bytes-front, bytes-cons, number_back, two_of, four_of}
use Rattle.mn_bgp_wire.proofs.InTurn.{items_again, items_take}
use Rattle.mn_bgp_wire.proofs.Parts.{fields_shorten, fields_read, fields_take, AnyField, then_some, some_is}
use Rattle.mn_bgp_wire.proofs.Results.{done, refused, done_is, after_ok, guard_ok, or_else_ok, map_some, both_true}

abbrev field_of : Parameter → Field
field_of parameter = parameter.field

any_fields : (fields : List Field) → AllByRecursion AnyField fields
any_fields [] = tt
any_fields (field ∷ fields) = (tt, any_fields fields)

fields_again : (fields : List Field) → fields_of (fields_bytes fields) ≡ Some fields
fields_again fields = items_again field_at field_bytes AnyField fields_shorten fields_read fields (any_fields fields)

offer_by : (b : Bool) (value : List ℕ) (capabilities : List Field) → MatchBool b (value ≡ fields_bytes capabilities) (capabilities ≡ []) →
    cond b (vpn_among value) (Some false) ≡ Some (list_any is_vpn capabilities)
offer_by true value capabilities h = ap vpn_among h ∙ ap (option_map (list_any is_vpn)) (fields_again capabilities)
offer_by false value capabilities h = ap (λ (cs : List Field). Some (list_any is_vpn cs)) (sym h)

offers_again : (parameters : List Parameter) → AllByRecursion HasCapabilities parameters →
    vpn_in_some (map field_of parameters) ≡ Some (list_any offers_vpn parameters)
offers_again [] h = refl
offers_again (p ∷ ps) h =
    ap (λ (o : Option Bool). o >>= λ first. vpn_in_some (map field_of ps) >>= λ others. Some (first || others))
    (offer_by (p.field.kind == capabilities_kind) p.field.value p.capabilities h.0)
    ∙ ap (λ (o : Option Bool). o >>= λ others. Some (offers_vpn p || others)) (offers_again ps h.1)

offered_again : (parameters : List Parameter) → AllByRecursion HasCapabilities parameters →
    vpn_offered (fields_bytes (map field_of parameters)) ≡ Some (list_any offers_vpn parameters)
offered_again ps h = ap (λ (o : Option (List Field)). o >>= vpn_in_some) (fields_again (map field_of ps)) ∙ offers_again ps h

opened : (version a b c d e f g h n : ℕ) (list : List ℕ) (vpn : Bool) → (version == 4) ≡ true → (n == length list) ≡ true → vpn_offered list ≡ Some vpn
    → open_of (version ∷ a ∷ b ∷ c ∷ d ∷ e ∷ f ∷ g ∷ h ∷ n ∷ list) ≡ Ok (opening (version ∷ a ∷ b ∷ c ∷ d ∷ e ∷ f ∷ g ∷ h ∷ n ∷ list) vpn)
unfolding open_of
opened version a b c d e f g h n list vpn v len o = rw (v, len, o) refl

same_opening : (version a asn h hold i id : ℕ) (vpn : Bool) → a ≡ asn → h ≡ hold → i ≡ id →
    done (messages.Opening version a h i vpn) ≡ done (messages.Opening version asn hold id vpn)
same_opening version a asn h hold i id vpn p q r = cc

pub open_again : (body : List ℕ) (version asn hold id : ℕ) (vpn : Bool) → IsOpen body version asn hold id vpn →
    open_of body ≡ Ok (messages.Opening version asn hold id vpn)
open_again body version asn hold id vpn is =
    let list = fields_bytes (map field_of is.parameters) in
    let v : (version == 4) ≡ true = ap (λ (n : ℕ). n == 4) is.version_is in
    let len : (length list == length list) ≡ true = grind (arith, nat_tests) in
    let o : vpn_offered list ≡ Some vpn = offered_again is.parameters is.capabilities ∙ ap Some (sym is.vpn_is) in
    let behind_id = length list ∷ list in
    let behind_hold = big_bytes 4 id ++ behind_id in
    let behind_asn = big_bytes 2 hold ++ behind_hold in
    ap open_of is.whole ∙ opened version _ _ _ _ _ _ _ _ (length list) list vpn v len o
    ∙ same_opening version _ asn _ hold _ id vpn (number_back 2 asn behind_asn is.asn_fits) (number_back 2 hold behind_hold is.hold_fits)
    (number_back 4 id behind_id is.id_fits)

-- the capabilities that are found
pub record IsOffered (b : Bool) (value : List ℕ) (found : Bool) : Type 0 where
  pub capabilities : List Field
  pub holds : MatchBool b (value ≡ fields_bytes capabilities) (capabilities ≡ [])
  pub found_is : found ≡ list_any is_vpn capabilities

offer_takes : (b : Bool) (value : List ℕ) (found : Bool) → IsBytes value → cond b (vpn_among value) (Some false) ≡ Some found → IsOffered b value found
offer_takes true value found fits e =
    let m = map_some (list_any is_vpn) (fields_of value) found e in
    record { capabilities = m.0; holds = items_take field_at field_bytes fields_take (length value) value m.0 fits m.1; found_is = sym m.2 }
offer_takes false value found fits e = record { capabilities = []; holds = refl; found_is = sym (some_is false found e) }

pub record AreOffered (fields : List Field) (found : Bool) : Type 0 where
  pub parameters : List Parameter
  pub fields_are : map field_of parameters ≡ fields
  pub holds : AllByRecursion HasCapabilities parameters
  pub found_is : found ≡ list_any offers_vpn parameters

offers_take : (fields : List Field) (found : Bool) → IsBytes (fields_bytes fields) → vpn_in_some fields ≡ Some found → AreOffered fields found
offers_take [] found fits e = record { parameters = []; fields_are = refl; holds = tt; found_is = sym (some_is false found e) }
offers_take (field ∷ fields) found fits e =
    let first = then_some (vpn_in field) (λ b. vpn_in_some fields >>= λ others. Some (b || others)) found e in
    let more = then_some (vpn_in_some fields) (λ others. Some (first.0 || others)) found first.2 in
    let behind_head =
    bytes-cons (length field.value) (field.value ++ fields_bytes fields)
    (bytes-cons field.kind (length field.value ∷ field.value ++ fields_bytes fields) fits) in
    let rest_fits = bytes-rest field.value (fields_bytes fields) behind_head in
    let one = offer_takes (field.kind == capabilities_kind) field.value first.0 (bytes-front field.value (fields_bytes fields) behind_head) first.1 in
    let others = offers_take fields more.0 rest_fits more.1 in
    record {
      parameters = record { field = field; capabilities = one.capabilities } ∷ others.parameters;
      fields_are = ap (λ (fs : List Field). field ∷ fs) others.fields_are;
      holds = (one.holds, others.holds);
      found_is =
          sym (some_is (first.0 || more.0) found more.2) ∙ ap (λ (b : Bool). b || more.0) one.found_is
          ∙ ap (λ (b : Bool). list_any is_vpn one.capabilities || b) others.found_is;
    }

pub record IsOpened (version n : ℕ) (list : List ℕ) (body : List ℕ) (message : BgpMessage) : Type 0 where
  pub vpn : Bool
  pub version_is : version ≡ 4
  pub length_is : n ≡ length list
  pub offered : vpn_offered list ≡ Some vpn
  pub message_is : opening body vpn ≡ message

parts_of : (v a b c d e f g h n : ℕ) (list : List ℕ) (message : BgpMessage) → open_of (v ∷ a ∷ b ∷ c ∷ d ∷ e ∷ f ∷ g ∷ h ∷ n ∷ list) ≡ Ok message →
    IsOpened v n list (v ∷ a ∷ b ∷ c ∷ d ∷ e ∷ f ∷ g ∷ h ∷ n ∷ list) message
unfolding open_of
parts_of v a b c d e f g h n list message is =
    let body = v ∷ a ∷ b ∷ c ∷ d ∷ e ∷ f ∷ g ∷ h ∷ n ∷ list in
    let q = guard_ok (not (v == 4) || not (n == length list)) BadOpen (after (or_else BadOpen (vpn_offered list)) (λ vpn. Ok (opening body vpn))) message is in
    let t = both_true (v == 4) (n == length list) q.0 in
    let w = after_ok (or_else BadOpen (vpn_offered list)) (λ vpn. Ok (opening body vpn)) message q.1 in
    record {
      vpn = w.0;
      version_is = eqb-true _ _ t.0;
      length_is = eqb-true _ _ t.1;
      offered = or_else_ok BadOpen (vpn_offered list) w.0 w.1;
      message_is = done_is (opening body w.0) message w.2;
    }

respelled : (v n : ℕ) (list list' x x' y y' z z' : List ℕ) → x ≡ x' → y ≡ y' → z ≡ z' → n ≡ length list → list ≡ list' →
    v ∷ x ++ y ++ z ++ n ∷ list ≡ v ∷ x' ++ y' ++ z' ++ length list' ∷ list'
respelled v n list list' x x' y y' z z' p q r s t = cc

whole_open : (v a b c d e f g h n : ℕ) (list : List ℕ) (message : BgpMessage) → IsBytes (v ∷ a ∷ b ∷ c ∷ d ∷ e ∷ f ∷ g ∷ h ∷ n ∷ list) →
    open_of (v ∷ a ∷ b ∷ c ∷ d ∷ e ∷ f ∷ g ∷ h ∷ n ∷ list) ≡ Ok message
    → (kind_of message ≡ open_kind) × IsBody (v ∷ a ∷ b ∷ c ∷ d ∷ e ∷ f ∷ g ∷ h ∷ n ∷ list) message
whole_open v a b c d e f g h n list message fits is =
    let body = v ∷ a ∷ b ∷ c ∷ d ∷ e ∷ f ∷ g ∷ h ∷ n ∷ list in
    let p = parts_of v a b c d e f g h n list message is in
    let list_fits : IsBytes list = bytes-rest (v ∷ a ∷ b ∷ c ∷ d ∷ e ∷ f ∷ g ∷ h ∷ n ∷ []) list fits in
    let s = then_some (fields_of list) vpn_in_some p.vpn p.offered in
    let spelled : list ≡ fields_bytes s.0 = items_take field_at field_bytes fields_take (length list) list s.0 list_fits s.1 in
    let o = offers_take s.0 p.vpn (subst IsBytes spelled list_fits) s.2 in
    let again : list ≡ fields_bytes (map field_of o.parameters) = spelled ∙ ap fields_bytes (sym o.fields_are) in
    let la = fits.below 1 in
    let lb = fits.below 2 in
    let lc = fits.below 3 in
    let ld = fits.below 4 in
    let le = fits.below 5 in
    let lf = fits.below 6 in
    let lg = fits.below 7 in
    let lh = fits.below 8 in
    let is_open : IsOpen body v (big_number 2 (drop 1 body)) (big_number 2 (drop 3 body)) (big_number 4 (drop 5 body)) p.vpn = record {
      parameters = o.parameters;
      version_is = p.version_is;
      asn_fits = omega arith;
      hold_fits = omega arith;
      id_fits = omega arith;
      capabilities = o.holds;
      vpn_is = o.found_is;
      whole = respelled v n list (fields_bytes (map field_of o.parameters)) (a ∷ b ∷ []) _ (c ∷ d ∷ []) _ (e ∷ f ∷ g ∷ h ∷ []) _
          (sym (two_of a b (c ∷ d ∷ e ∷ f ∷ g ∷ h ∷ n ∷ list) la lb)) (sym (two_of c d (e ∷ f ∷ g ∷ h ∷ n ∷ list) lc ld))
          (sym (four_of e f g h (n ∷ list) le lf lg lh)) p.length_is again;
    } in
    subst (λ (m : BgpMessage). (kind_of m ≡ open_kind) × IsBody body m) p.message_is (refl, is_open)

pub open_takes : (body : List ℕ) (message : BgpMessage) → IsBytes body → 10 ≤ length body → open_of body ≡ Ok message →
    (kind_of message ≡ open_kind) × IsBody body message
open_takes (v ∷ a ∷ b ∷ c ∷ d ∷ e ∷ f ∷ g ∷ h ∷ n ∷ list) message fits long is = whole_open v a b c d e f g h n list message fits is
open_takes _ message fits long is = absurd (omega arith)

-- What is no OPEN is refused.

chosen : (b : Bool) (o : Option Bool) (f : Bool → Result BgpMessage BgpWireBad) (r : Result BgpMessage BgpWireBad) →
    cond b (refused BadOpen) (after (or_else BadOpen o) (λ vpn. f vpn)) ≡ r → (((vpn : Bool) → f vpn ≡ r → ⊥) → r ≡ Err BadOpen)
chosen true o f r e none = sym e
chosen false None f r e none = sym e
chosen false (Some vpn) f r e none = absurd (none vpn e)

open_or_bad : (body : List ℕ) → ((vpn : Bool) → open_of body ≡ Ok (opening body vpn) → ⊥) → open_of body ≡ Err BadOpen
unfolding open_of
open_or_bad body none =
    chosen (not (version_of body == 4) || not (slice_index body 9 == length (drop 10 body))) (vpn_offered (drop 10 body)) (λ vpn. Ok (opening body vpn))
    (open_of body) refl (λ vpn e. none vpn (sym e))

pub open_refused : (body : List ℕ) → IsBytes body → 10 ≤ length body → ((version asn hold id : ℕ) (vpn : Bool) → IsOpen body version asn hold id vpn → ⊥) →
    open_of body ≡ Err BadOpen
open_refused body fits long none = open_or_bad body (λ vpn e. none (version_of body) _ _ _ vpn (open_takes body (opening body vpn) fits long e).1)
