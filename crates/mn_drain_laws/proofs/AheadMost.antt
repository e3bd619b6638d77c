-- What lies ahead is bounded by what is in flight, and by what all ends may have to say before they are OPERATIONAL.
use Rattle.std.proofs.Common.{ℕ, zero, suc, ◌≡◌, ◌+◌, ◌*◌, ◌≤◌, Bool, true, false, List, [], ◌∷◌, length, drop, arith, subst}
use Rattle.std.specs.Prelude.{◌&&◌}
use Rattle.mn_wiring.specs.Wiring.{View, is_end, across}
use Rattle.mn_wiring.specs.Paths.{next}
use Rattle.mn_topo.specs.Network.{Network, wiring_of}
use Rattle.mn_topo.specs.Lawful.{IsLawful}
use Rattle.mn_ledger.specs.World.{Config, Sessions, Message, Initialization, KeepAlive, Address, Mapping, Withdraw, Release}
use Rattle.mn_ledger.specs.Transport.{lives}
use Rattle.mn_drain_laws.specs.Sums.{total, where_so}
use Rattle.mn_drain_laws.specs.Weights.{degree, weight, mention_weight, is_over}
use Rattle.mn_drain_laws.specs.Ahead.{message_weight, measured, all_mentions_weight, greeting_weight, end_weight, node_weight, ahead}
use Rattle.mn_drain_laws.specs.Drain.{unheard_on, ldp_messages}
use Rattle.mn_drain_laws.proofs.Sums.{total-below, total-same, total-add, total-most}
use Rattle.mn_drain_laws.proofs.Weights.{weight-most, degrees}
use Rattle.mn_drain_laws.proofs.Scale.{times-up, total-scale, where-scale, greetings, suc-times}

module _ (t : Network) (lawful : IsLawful t) (v : View) where
  -- the greatest weight of a message
  abbrev most : ℕ
  most = 2 + length t.loopbacks * (4 * length t.links)

  where-most : (b : Bool) (i : ℕ) → where_so b i ≤ i
  where-most true i = omega arith
  where-most false i = omega arith

  mention-most : (q l k : ℕ) → mention_weight (wiring_of t) v q l k ≤ 2 + length t.loopbacks * (4 * length t.links)
  mention-most q l k = omega (arith, where-most (is_over (next (wiring_of t) v k q) l) (weight (wiring_of t) v q k), weight-most t v lawful q k)

  message-most : (l k : ℕ) (m : Message) → message_weight (wiring_of t) v l k m ≤ 2 + length t.loopbacks * (4 * length t.links)
  message-most l k (Mapping q) = mention-most q l k
  message-most l k (Withdraw q) = mention-most q l k
  message-most l k (Release q) = omega arith
  message-most l k Initialization = omega arith
  message-most l k KeepAlive = omega arith
  message-most l k Address = omega arith

  measured-most : (size : Message → ℕ) (a : ℕ) → ((m : Message) → size m ≤ a) → (ms : List Message) → measured size ms ≤ length ms * a
  measured-most size a h [] = omega arith
  measured-most size a h (m ∷ ms) = omega (arith, h m, measured-most size a h ms, suc-times (length ms) a)

  greeting-most : (i m : ℕ) → greeting_weight i m ≤ 3 + m
  greeting-most zero m = omega arith
  greeting-most (suc zero) m = omega arith
  greeting-most (suc (suc i)) m = omega arith

  abbrev greeted : ℕ
  greeted = (length t.loopbacks + 3) * (2 + length t.loopbacks * (4 * length t.links))

  end-most : (s : Sessions) (x l : ℕ) → end_weight (wiring_of t) v s x l
      ≤ length (drop (s.heard l (across (wiring_of t) l x)) (s.said l x)) * (2 + length t.loopbacks * (4 * length t.links)) + greeted
  end-most s x l = omega (
    arith,
    measured-most (message_weight (wiring_of t) v l (across (wiring_of t) l x)) (2 + length t.loopbacks * (4 * length t.links))
        (message-most l (across (wiring_of t) l x)) (drop (s.heard l (across (wiring_of t) l x)) (s.said l x)),
    greeting-most (s.heard l x) (all_mentions_weight (wiring_of t) v l (across (wiring_of t) l x)),
    total-most (length t.loopbacks) (λ q. mention_weight (wiring_of t) v q l (across (wiring_of t) l x)) (2 + length t.loopbacks * (4 * length t.links))
        (λ q h. mention-most q l (across (wiring_of t) l x)),
    greetings (length t.loopbacks) (2 + length t.loopbacks * (4 * length t.links)) (omega arith),
  )

  where-both : (a b : Bool) (x y k m : ℕ) → x ≤ y * k + m → where_so (a && b) x ≤ where_so (a && b) y * k + where_so a m
  where-both true true x y k m h = h
  where-both true false x y k m h = omega arith
  where-both false b x y k m h = omega arith

  pub ahead-most : (c : Config) (s : Sessions) → ahead (wiring_of t) v c s
      ≤ (ldp_messages t c s + length t.links * 2 * (length t.loopbacks + 3)) * (2 + length t.loopbacks * (4 * length t.links))
  ahead-most c s = finish
    where
      node-most : (x : ℕ) → node_weight (wiring_of t) v c s x
          ≤ total (length t.links) (unheard_on t c s x) * (2 + length t.loopbacks * (4 * length t.links)) + degree (wiring_of t) x * greeted
      node-most x = omega (
        arith,
        total-below (length t.links) (λ l. where_so (is_end (wiring_of t) l x && lives c l) (end_weight (wiring_of t) v s x l))
            (λ l. unheard_on t c s x l * (2 + length t.loopbacks * (4 * length t.links)) + where_so (is_end (wiring_of t) l x) greeted)
            (λ l h. where-both (is_end (wiring_of t) l x) (lives c l) _ _ (2 + length t.loopbacks * (4 * length t.links)) greeted (end-most s x l)),
        total-add (length t.links) (λ l. unheard_on t c s x l * (2 + length t.loopbacks * (4 * length t.links)))
            (λ l. where_so (is_end (wiring_of t) l x) greeted),
        total-scale (length t.links) (unheard_on t c s x) (2 + length t.loopbacks * (4 * length t.links)),
        total-same (length t.links) (λ l. where_so (is_end (wiring_of t) l x) greeted) (λ l. where_so (is_end (wiring_of t) l x) 1 * greeted)
            (λ l h. where-scale (is_end (wiring_of t) l x) greeted),
        total-scale (length t.links) (λ l. where_so (is_end (wiring_of t) l x) 1) greeted,
      )

      all-most : ahead (wiring_of t) v c s ≤ ldp_messages t c s * (2 + length t.loopbacks * (4 * length t.links)) + length t.links * 2 * greeted
      all-most = omega (
        arith,
        total-below (length t.loopbacks) (node_weight (wiring_of t) v c s)
            (λ x. total (length t.links) (unheard_on t c s x) * (2 + length t.loopbacks * (4 * length t.links)) + degree (wiring_of t) x * greeted)
            (λ x h. node-most x),
        total-add (length t.loopbacks) (λ x. total (length t.links) (unheard_on t c s x) * (2 + length t.loopbacks * (4 * length t.links)))
            (λ x. degree (wiring_of t) x * greeted),
        total-scale (length t.loopbacks) (λ x. total (length t.links) (unheard_on t c s x)) (2 + length t.loopbacks * (4 * length t.links)),
        total-scale (length t.loopbacks) (degree (wiring_of t)) greeted,
        times-up (total (length t.loopbacks) (degree (wiring_of t))) (length t.links * 2) greeted (degrees t v lawful 0),
      )

      regroup : (m l p k : ℕ) → m * k + l * 2 * ((p + 3) * k) ≡ (m + l * 2 * (p + 3)) * k
      regroup m l p k = grind arith

      finish : ahead (wiring_of t) v c s ≤ (ldp_messages t c s + length t.links * 2 * (length t.loopbacks + 3))
          * (2 + length t.loopbacks * (4 * length t.links))
      finish =
          subst (λ z. ahead (wiring_of t) v c s ≤ z) (regroup (ldp_messages t c s) (length t.links) (length t.loopbacks)
          (2 + length t.loopbacks * (4 * length t.links))) all-most
