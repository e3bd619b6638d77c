-- A reflected UPDATE as it is read: the refusals in the order in which they are tried.
use Rattle.std.specs.Prelude.{◌≡◌, ℕ, ◌%◌, ◌==◌, ◌||◌, not, List, [], ◌∷◌, length, Option, Some, None, Result, Ok, Err, ⊤, if◌then◌else◌}
use Rattle.byteorder.specs.Endian.{big_number}
use Rattle.mn_base.specs.Found.{◌>>=◌}
use Rattle.mn_bgp_wire.specs.Says.{Says}
use Rattle.mn_bgp_wire.specs.Grammar.{value_of}
use Rattle.mn_bgp_wire.specs.Reading.{body_of, attributes_in, message_of}
use Rattle.mn_bgp_wire.specs.declared.message.BgpMessage.{BgpMessage}
use Rattle.mn_bgp_wire.specs.declared.message.BgpMessage.TheVariants as messages
use Rattle.mn_bgp_wire.specs.declared.refusal.BgpWireBad.{BgpWireBad}
use Rattle.mn_bgp_wire.specs.declared.refusal.BgpWireBad.TheVariants as wire
use Rattle.mn_bgp_reflected.specs.Says.{SaysReflected}
use Rattle.mn_bgp_reflected.specs.Grammar.{originator_kind, cluster_kind}
use Rattle.mn_bgp_reflected.specs.declared.refusal.ReflectedBad.{ReflectedBad}
use Rattle.mn_bgp_reflected.specs.declared.refusal.ReflectedBad.TheVariants.{Wire, NotUpdate, BadOriginator, BadClusters, NoMemory}
pub use Rattle.mn_base.specs.Rules.{after}

-- the value of the attribute of a type in the body of an UPDATE
abbrev pub said_of : ℕ → List ℕ → Option (List ℕ)
said_of kind body = attributes_in body >>= value_of kind

-- why a message is refused; out of memory is no fault of it
abbrev pub refusal_by : BgpWireBad → ReflectedBad
refusal_by wire.NoMemory = NoMemory
refusal_by bad = Wire bad

-- what the UPDATE says beside; whatever the message is refused for
unfoldable pub update_in : Result BgpMessage BgpWireBad → Result Says ReflectedBad
update_in (Err bad) = Err (Wire bad)
update_in (Ok (messages.Update says)) = Ok says
update_in (Ok _) = Err NotUpdate

-- RFC 4456, section 8: an address, in four bytes
unfoldable pub originator_of : Option (List ℕ) → Result (Option ℕ) ReflectedBad
originator_of None = Ok None
originator_of (Some value) = if length value == 4 then Ok (Some (big_number 4 value)) else Err BadOriginator

-- every four bytes from the front, as an address
unfoldable pub addresses_of : List ℕ → List ℕ
addresses_of (a ∷ b ∷ c ∷ d ∷ rest) = big_number 4 (a ∷ b ∷ c ∷ d ∷ []) ∷ addresses_of rest
addresses_of _ = []

-- RFC 4456, section 8: addresses one after another, and at least one
unfoldable pub clusters_of : Option (List ℕ) → Result (List ℕ) ReflectedBad
clusters_of None = Ok []
clusters_of (Some value) = if length value == 0 || not (length value % 4 == 0) then Err BadClusters else Ok (addresses_of value)

unfoldable pub reflected_of : List ℕ → Result SaysReflected ReflectedBad
reflected_of bytes =
    after (update_in (message_of bytes)) (λ update.
    after (originator_of (said_of originator_kind (body_of bytes))) (λ originator.
    after (clusters_of (said_of cluster_kind (body_of bytes))) (λ clusters.
    Ok (record { update = update; originator = originator; clusters = clusters }))))

-- A refusal is the one that reading gives, and out of memory is free.
abbrev pub Fails : {Y : Type 0} → ReflectedBad → Result Y ReflectedBad → Type 0
Fails NoMemory reading = ⊤
Fails (Wire bad) reading = reading ≡ Err (Wire bad)
Fails NotUpdate reading = reading ≡ Err NotUpdate
Fails BadOriginator reading = reading ≡ Err BadOriginator
Fails BadClusters reading = reading ≡ Err BadClusters

-- what a function answers, seen by view, is what reading gives
abbrev pub Gives : {X Y : Type 0} → (X → Y) → Result X ReflectedBad → Result Y ReflectedBad → Type 0
Gives view (Ok x) reading = reading ≡ Ok (view x)
Gives view (Err bad) reading = Fails bad reading

abbrev pub Answers : {X : Type 0} → Result X ReflectedBad → Result X ReflectedBad → Type 0
Answers result reading = Gives (λ x. x) result reading
