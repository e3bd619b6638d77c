-- What the loads of one channel are messages and tellings of.
use Rattle.std.proofs.Common.{ℕ, ◌≡◌, Bool, true, false, cond, List, [], ◌∷◌, ◌++◌, map, filter, refl, ap, ◌∙◌}
use Rattle.std.specs.Prelude.{◌==◌, ◌&&◌}
use Rattle.std.specs.List.{flat_map}
use Rattle.mn_ledger.specs.World.{Message}
use Rattle.mn_ledger.specs.Items.{Channel, Messages, Routes, Load, Says, Tells, same_channel}
use Rattle.mn_ledger.proofs.Channels.{loads_in}
use Rattle.mn_output_laws.specs.Contents.{said_on, told_on}
use Rattle.mn_output_laws.specs.Lists.{telling_in}

-- 1. One load after another

one_load : {A : Type 0} (what : Load → List A) (on_it : Bool) (made : Channel × Load) (rest : List (Channel × Load)) (xs : List A) →
    cond on_it (what made.1) [] ≡ xs → flat_map what (map (λ (one : Channel × Load). one.1) (cond on_it (made ∷ rest) rest))
    ≡ xs ++ flat_map what (map (λ (one : Channel × Load). one.1) rest)
one_load what true made rest xs e = ap (λ ys. ys ++ flat_map what (map (λ (one : Channel × Load). one.1) rest)) e
one_load what false made rest xs e = ap (λ ys. ys ++ flat_map what (map (λ (one : Channel × Load). one.1) rest)) e

pub each_load : {A : Type 0} (what : Load → List A) (on : Channel) (of : Channel × Load → List A) →
    ((other : Channel) (load : Load) → cond (same_channel on other) (what load) [] ≡ of (other, load)) → (made : List (Channel × Load)) →
    flat_map what (loads_in on made) ≡ flat_map of made
each_load what on of is [] = refl
each_load what on of is (m ∷ ms) =
    one_load what (same_channel on m.0) m (filter (λ (one : Channel × Load). same_channel on one.0) ms) (of m) (is m.0 m.1)
    ∙ ap (λ rest. of m ++ rest) (each_load what on of is ms)

-- 2. What is sent over a link, and told to a peer

abbrev pub message_in : Load → List Message
message_in (Says message) = message ∷ []
message_in load = []

none_of : {A : Type 0} (xs : List A) (on_it : Bool) → xs ≡ [] → cond on_it xs [] ≡ []
none_of xs true e = e
none_of xs false e = refl

pub is_said : (l end : ℕ) (on : Channel) (load : Load) → cond (same_channel (Messages l end) on) (message_in load) [] ≡ said_on l end (on, load)
is_said l end (Messages other speaker) (Says m) = refl
is_said l end (Messages other speaker) _ = none_of _ ((other == l) && (speaker == end)) refl
is_said l end _ load = refl

pub is_told : (edge peer : ℕ) (on : Channel) (load : Load) → cond (same_channel (Routes edge peer) on) (telling_in load) [] ≡ told_on edge peer (on, load)
is_told edge peer (Routes teller other) (Tells m) = refl
is_told edge peer (Routes teller other) _ = none_of _ ((teller == edge) && (other == peer)) refl
is_told edge peer _ load = refl
