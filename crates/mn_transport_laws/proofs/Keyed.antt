-- What a node puts into flight has the keys of what it says.
use Rattle.std.proofs.Common.{ℕ, suc, ◌≡◌, ◌+◌, List, [], ◌∷◌, map, length, refl, sym, ◌∙◌, ap}
use Rattle.mn_wiring.specs.Wiring.{Wiring, link}
use Rattle.mn_topo.specs.Network.{Network, wiring_of}
use Rattle.mn_node.specs.Ldp.{Said}
use Rattle.mn_node.specs.Node.{Node}
use Rattle.mn_ldp_session.specs.Spelling.{pdus, one_said}
use Rattle.mn_ledger.specs.Items.{message_of, numbered}
use Rattle.mn_timetable_laws.specs.Keys.{Key, keys_in, keys_on, channel_from, of_messages}
use Rattle.mn_transport_laws.specs.Sending.{put_pdus}
use Rattle.mn_node.proofs.News.{EachBy}

pub keys-sent : (t : Network) (me tick number : ℕ) (own : ℕ → ℕ) (wd : ℕ) (n : Node) (xs : List Said) → EachBy me xs
    → keys_in (put_pdus (wiring_of t) me tick number (pdus (wiring_of t) own wd n xs)) ≡ keys_on (of_messages t) (numbered t tick number (map message_of xs))
keys-sent t me tick number own wd n [] h = refl
keys-sent t me tick number own wd n (x ∷ xs) h =
    ap (λ end. let k : Key = record { channel = channel_from (wiring_of t) x.link end; due = tick + (link (wiring_of t) x.link).delay; number = number } in
    k ∷ keys_in (put_pdus (wiring_of t) me tick (number + 1) (pdus (wiring_of t) own wd (one_said n x.link) xs))) (sym h.0)
    ∙ ap (λ ks. (let k : Key =
    record { channel = channel_from (wiring_of t) x.link x.end; due = tick + (link (wiring_of t) x.link).delay; number = number } in k) ∷ ks)
    (keys-sent t me tick (number + 1) own wd (one_said n x.link) xs h.1)

pub length-pdus : (w : Wiring) (own : ℕ → ℕ) (wd : ℕ) (n : Node) (xs : List Said) → length (pdus w own wd n xs) ≡ length xs
length-pdus w own wd n [] = refl
length-pdus w own wd n (x ∷ xs) = ap suc (length-pdus w own wd (one_said n x.link) xs)
