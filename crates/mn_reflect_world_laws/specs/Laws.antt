-- What a node keeps is what was last mentioned, and what flies is what was sent.
use Rattle.std.specs.Prelude.{◌≡◌, ◌≢◌, ℕ, [], not, true, List, filter, Some, option_map}
use Rattle.mn_topo.specs.Network.{Network}
use Rattle.mn_topo.specs.declared.steps.Step.TheVariants as step
use Rattle.mn_base.specs.declared.numbers.NodeNo.{NodeNo}
use Rattle.mn_ledger.specs.Tables.{put_pair}
use Rattle.mn_ledger.specs.Bgp.{peers_live}
use Rattle.mn_bgp_spelling_laws.specs.Spelling.{Labels}
use Rattle.mn_offers.specs.Heard.{Heard, heard_at}
use Rattle.mn_mail.specs.Mail as mail
use Rattle.mn_mail.specs.Mail.{Letter}
use Rattle.mn_reflect_ledger_laws.specs.Words.{Key, Word}
use Rattle.mn_reflect_ledger_laws.specs.Picks.{Spoken, ReflectWorld, announced_by}
use Rattle.mn_reflect_ledger_laws.specs.World.{first_word, without_first, is_between, heard_one, unsaid}
use Rattle.mn_reflect_world_laws.specs.Kept.{route_in, after_word, kept_in}
use Rattle.mn_reflect_world_laws.specs.Spelling.{letter_in, letters_in}

-- of each route a node has the last mention of each peer, where that is an announcement and the session lives
abbrev pub KeepsWhatIsAnnounced : Type 0
KeepsWhatIsAnnounced = (labels : Labels) (world : ReflectWorld) (node peer : ℕ) (key : Key) →
    heard_at key.vrf key.prefix (kept_in labels world node peer) ≡ option_map (route_in labels) (announced_by world node peer key)

-- the first letter in a direction is the first word, the others are the other words, and what is cut is the same
pub record FliesAsSaid (topology : Network) (reflectors : List ℕ) (labels : Labels) (a b : ℕ) (flying : List Spoken) : Type 0 where
  pub first : mail.first_from_to a b (letters_in topology reflectors labels flying)
      ≡ option_map (λ (word : Word). letter_in topology reflectors labels (record { from = a; to = b; word = word })) (first_word a b flying)
  pub others : mail.without_first a b (letters_in topology reflectors labels flying) ≡ letters_in topology reflectors labels (without_first a b flying)
  pub left : filter (λ (letter : Letter). not (mail.is_between a b letter)) (letters_in topology reflectors labels flying)
      ≡ letters_in topology reflectors labels (filter (λ spoken. not (is_between a b spoken)) flying)

abbrev pub LettersAreWords : Type 0
LettersAreWords = (topology : Network) (reflectors : List ℕ) (labels : Labels) (a b : ℕ) (flying : List Spoken) →
    FliesAsSaid topology reflectors labels a b flying

-- as a word of a peer is received, what the node keeps of that peer takes it in, and nothing else changes
abbrev pub TakesInWhatIsHeard : Type 0
TakesInWhatIsHeard = (labels : Labels) (world : ReflectWorld) (from to : ℕ) (word : Word) (node peer : ℕ) → peers_live world.config to from ≡ true →
    kept_in labels (heard_one world from to (Some word)) node peer
    ≡ put_pair (kept_in labels world) to from (after_word labels (kept_in labels world to from) word) node peer

-- of two nodes each keeps nothing of the other, and all else is kept
abbrev pub both_forgotten : (ℕ → ℕ → List Heard) → ℕ → ℕ → ℕ → ℕ → List Heard
both_forgotten kept a b = put_pair (put_pair kept a b []) b a []

-- as a session of two nodes begins or ends, each forgets what it received from the other, and nothing else changes
pub record Forgets (labels : Labels) (world : ReflectWorld) (a b : NodeNo) (node peer : ℕ) : Type 0 where
  pub begins : kept_in labels (unsaid world (step.BgpUp a b)) node peer ≡ both_forgotten (kept_in labels world) a.0 b.0 node peer
  pub ends : kept_in labels (unsaid world (step.BgpDown a b)) node peer ≡ both_forgotten (kept_in labels world) a.0 b.0 node peer

abbrev pub ForgetsAsSessionsTurn : Type 0
ForgetsAsSessionsTurn = (labels : Labels) (world : ReflectWorld) (a b : NodeNo) (node peer : ℕ) → a.0 ≢ b.0 → Forgets labels world a b node peer
