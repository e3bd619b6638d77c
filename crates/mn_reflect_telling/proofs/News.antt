-- What a reflector tells a peer of a route.
use Rattle.std.proofs.Common.{ℕ, List, Option, None}
use Rattle.mn_base.specs.declared.numbers.NodeNo.{NodeNo}
use Rattle.mn_offers.specs.Heard.{Heard}
use Rattle.mn_mail.specs.Mail.{Letter}
use Rattle.mn_reflect_ledger_laws.specs.Words.{Key}
use Rattle.mn_reflect_world_laws.specs.Choice.{Row, offered_of}
use Rattle.mn_reflect_world_laws.specs.Letters.{change_letters}
use Rattle.mn_reflect_telling.specs.Mentions.{numbers_of}
use Rattle.mn_reflect_telling.specs.declared.teller.Teller.{Teller}

abbrev pub offer_to : Teller → Row → ℕ → Key → Option Heard
offer_to teller row peer key = offered_of teller.topology.now (numbers_of teller.reflectors.now) row teller.node.0 peer key

-- where this was received from it and this is
abbrev pub news_to : Teller → Row → Row → Key → NodeNo → List Letter
news_to teller was row key peer =
    change_letters teller.topology.now teller.node.0 peer.0 key (offer_to teller was peer.0 key) (offer_to teller row peer.0 key)

-- and where the peer was told nothing of it
abbrev pub first_news_to : Teller → Row → ℕ → Key → List Letter
first_news_to teller row peer key = change_letters teller.topology.now teller.node.0 peer key None (offer_to teller row peer key)
