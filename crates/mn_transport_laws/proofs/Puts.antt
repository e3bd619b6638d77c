-- What is put into flight in a step, by numbers and due ticks.
use Rattle.std.proofs.Common.{ℕ, ◌≡◌, ◌+◌, ◌*◌, List, [], ◌∷◌, ◌++◌, length, map, refl, arith, sym, ◌∙◌, ap, append_assoc, append-nil}
use Rattle.std.specs.Prelude.{◌==◌, not}
use Rattle.std.proofs.lemmas.List.{length-append, length-map}
use Rattle.mn_wiring.specs.Wiring.{Wiring}
use Rattle.mn_wiring.specs.declared.links.Dir.TheVariants.{Forth, Back}
use Rattle.mn_flight.specs.declared.Item.{Item}
use Rattle.mn_flight.specs.Flying.{off_channel}
use Rattle.mn_topo.specs.Network.{Network, wiring_of}
use Rattle.mn_node.specs.Ldp.{Said}
use Rattle.mn_node.specs.Node.{Node}
use Rattle.mn_node.specs.Machine.{Event}
use Rattle.mn_ldp_session.specs.Spelling.{pdus}
use Rattle.mn_lsr.specs.Turns.{kept_in}
use Rattle.mn_node.proofs.News.{EachBy}
use Rattle.mn_ledger.specs.Packets.{channel}
use Rattle.mn_ledger.specs.Items.{Channel, Notices, Load, Notice as ANotice, message_of, numbered}
use Rattle.mn_timetable_laws.specs.Keys.{Key, keys_in, keys_on, of_notices, of_messages, but_two, keys_by}
use Rattle.mn_timetable_laws.proofs.Keys.{keys_put, keys_dropped, keys_more, numbered-append}
use Rattle.mn_transport_laws.specs.Carried.{Carried}
use Rattle.mn_transport_laws.specs.Sending.{notices_to, put_pdus, pdus_in, off_link}
use Rattle.mn_transport_laws.specs.Acting.{Acts}
use Rattle.mn_transport_laws.proofs.Own.{AllOwn}
use Rattle.mn_transport_laws.proofs.Keyed.{keys-sent, length-pdus}

-- 1. Notices

pub keys-told : (t : Network) (l due tick number : ℕ) (ns : List ℕ) → due ≡ tick + t.notice_delay
    → keys_in (notices_to (l * length t.loopbacks) due number ns) ≡ keys_on (of_notices (length t.loopbacks))
    (numbered t tick number (map (λ node. let made : Channel × Load = (Notices l node, ANotice) in made) ns))
keys-told t l due tick number [] e = refl
keys-told t l due tick number (n ∷ ns) e =
    ap (λ d. (let k : Key = record { channel = l * length t.loopbacks + n; due = d; number = number } in
    k) ∷ keys_in (notices_to (l * length t.loopbacks) due (number + 1) ns)) e
    ∙ ap (λ ks. (let k : Key = record { channel = l * length t.loopbacks + n; due = tick + t.notice_delay; number = number } in k) ∷ ks)
    (keys-told t l due tick (number + 1) ns e)

-- 2. Messages

pub each-own : (w : Wiring) (n : Node) (me : ℕ) (xs : List Said) → AllOwn w n me xs → EachBy me xs
each-own w n me [] h = tt
each-own w n me (x ∷ xs) h = (h.0.by, each-own w n me xs h.1)

-- these are put into flight, numbered from this number on
pub record Puts (t : Network) (tick number : ℕ) (xs : List (Channel × Load)) (old new : List (Item (List ℕ))) (next : ℕ) : Type 0 where
  pub keys : keys_in new ≡ keys_in old ++ keys_on (of_messages t) (numbered t tick number xs)
  pub next_is : next ≡ number + length xs

pub puts-act : (t : Network) (tick number m next : ℕ) (e : Event) (old new : Carried) (acts : Acts t tick number m e old new next) (own : ℕ →
    ℕ) (wd : ℕ) (n : Node)
    (xs : List Said) → pdus_in (wiring_of t) tick (kept_in acts.was) e ≡ pdus (wiring_of t) own wd n xs → EachBy m xs
    → Puts t tick number (map message_of xs) old.messages new.messages next
puts-act t tick number m next e old new acts own wd n xs is by = record {
  keys = ap (λ (c : Carried). keys_in c.messages) acts.new_is
      ∙ ap (λ ps. keys_in (old.messages ++ put_pdus (wiring_of t) m tick number ps)) is
      ∙ keys_put old.messages (put_pdus (wiring_of t) m tick number (pdus (wiring_of t) own wd n xs))
      ∙ ap (λ ks. keys_in old.messages ++ ks) (keys-sent t m tick number own wd n xs by);
  next_is = acts.next_is ∙ ap (λ ps. number + length ps) is
      ∙ ap (λ k. number + k) (length-pdus (wiring_of t) own wd n xs ∙ sym (length-map xs message_of));
}

pub puts-both : (t : Network) (tick number middle next : ℕ) (xs ys : List (Channel × Load)) (a b c : List (Item (List ℕ))) →
    Puts t tick number xs a b middle → Puts t tick middle ys b c next
    → Puts t tick number (xs ++ ys) a c next
puts-both t tick number middle next xs ys a b c f g = record {
  keys = g.keys ∙ ap (λ ks. ks ++ keys_on (of_messages t) (numbered t tick middle ys)) f.keys
      ∙ append_assoc (keys_in a) (keys_on (of_messages t) (numbered t tick number xs)) (keys_on (of_messages t) (numbered t tick middle ys))
      ∙ ap (λ ks. keys_in a ++ ks)
      (ap (λ k. keys_on (of_messages t) (numbered t tick number xs) ++ keys_on (of_messages t) (numbered t tick k ys)) f.next_is
      ∙ sym (keys_more (of_messages t) (numbered t tick number xs) (numbered t tick (number + length xs) ys))
      ∙ ap (keys_on (of_messages t)) (sym (numbered-append t tick number xs ys)));
  next_is = let longer = length-append xs ys in let one = f.next_is in let two = g.next_is in omega (arith, longer, one, two);
}

pub puts-none : (t : Network) (tick number : ℕ) (a b : List (Item (List ℕ))) (next : ℕ) → b ≡ a → next ≡ number → Puts t tick number [] a b next
puts-none t tick number a b next e f = record { keys = ap keys_in e ∙ sym (append-nil (keys_in a)); next_is = omega (arith, f) }

-- a link that was cut
pub keys-cut : (l : ℕ) (items : List (Item (List ℕ))) → keys_in (off_link l items) ≡ but_two (channel l Forth) (channel l Back) (keys_in items)
keys-cut l items = keys_dropped (2 * l + 1) (off_channel (2 * l) items) ∙ ap (keys_by (λ n. not (n == 2 * l + 1))) (keys_dropped (2 * l) items)
