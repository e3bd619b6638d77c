-- What each load that a step made adds to a file.
use Rattle.std.proofs.Common.{◌≡◌, ◌≢◌, ℕ, ◌<◌, ◌==◌, ◌&&◌, ◌||◌, true, false, if◌then◌else◌, List, [], ◌∷◌, ◌++◌, length, Option, Some, None, refl}
use Rattle.std.proofs.Common.{sym, ◌∙◌, ap}
use Rattle.std.proofs.lemmas.List.{append-nil}
use Rattle.std.specs.List.{flat_map}
use Rattle.mn_wiring.specs.Wiring.{is_end, link, sender, receiver}
use Rattle.mn_wiring.specs.declared.links.Dir.{Dir}
use Rattle.mn_wiring.specs.declared.links.Dir.TheVariants.{Forth, Back}
use Rattle.mn_base.proofs.Bools.{same_test, same_numbers, other_test, other_numbers, and_left}
use Rattle.mn_pcap.specs.Format.{record_of}
use Rattle.mn_topo.specs.Network.{Network, wiring_of}
use Rattle.mn_topo.specs.Lawful.{IsLawful}
use Rattle.mn_topo.specs.declared.steps.JournalEntry.{JournalEntry}
use Rattle.mn_ledger.specs.Packets.{away_from}
use Rattle.mn_ledger.specs.World.{Telling}
use Rattle.mn_ledger.specs.Items.{Channel, Load, Notice, Says, Tells, Carries}
use Rattle.mn_ledger.specs.Items as on
use Rattle.mn_ledger_laws.specs.Flight.{IsOfChannel}
use Rattle.mn_frame_laws.specs.Given.{given}
use Rattle.mn_frame_laws.specs.Numbers.{labels_of}
use Rattle.mn_frame_laws.specs.Frames.{stack_of}
use Rattle.mn_stack.specs.Grammar.{stack_bytes}
use Rattle.mn_bgp_spelling_laws.specs.Spelling.{bytes_in}
use Rattle.mn_sched.specs.Told.{channel_of, bytes_on}
use Rattle.mn_output_laws.specs.Files.{OutputFile, Journal, Labels, Deliveries, Frames, Said}
use Rattle.mn_output_laws.specs.Files as file
use Rattle.mn_output_laws.specs.Contents.{frame_record, over_ppp, told_on}
use Rattle.mn_perform.specs.Parts.{in_file, same_file, is_dir, file_for, piece_of}
use Rattle.mn_perform.proofs.Same.{by_test}

-- what a load that was made at a tick, with so many in front of it on its channel, adds to a file
abbrev pub load_part : Network → List JournalEntry → ℕ → ℕ → Channel × Load → OutputFile → List ℕ
load_part t journal tick place made out =
    in_file (file_for (channel_of t made.0)) (piece_of tick (channel_of t made.0) (bytes_on t journal place made.0 made.1)) out

when_same : (P : ℕ → List ℕ) (a b : ℕ) → (if a == b then P a else []) ≡ (if a == b then P b else [])
when_same P a b = by_test (a == b)
    (λ h. ap (λ n. if a == b then P n else []) (same_numbers a b h))
    (λ h. ap (λ x. if x then P a else []) h ∙ sym (ap (λ x. if x then P b else []) h))

-- 1. A frame

pub frame_part : (t : Network) (journal : List JournalEntry) (tick place l : ℕ) (made : Channel × Load) → IsOfChannel t made.0 made.1 →
    load_part t journal tick place made (Frames l) ≡ frame_record t (given t journal) tick l made
frame_part t journal tick place l (on.Notices m node, Notice) h = refl
frame_part t journal tick place l (on.Messages m end, Says message) h = refl
frame_part t journal tick place l (on.Routes edge peer, Tells telling) h = refl
frame_part t journal tick place l (on.Frames other dir, Carries token) h =
    when_same (λ m. record_of tick (over_ppp (stack_bytes (stack_of (given t journal) token (receiver (wiring_of t) m dir)) ++ token.bytes))) other l
frame_part t journal tick place l _ h = absurd h

-- 2. A message of BGP

tells_part : (t : Network) (journal : List JournalEntry) (edge peer teller other : ℕ) (telling : Telling) →
    (if (teller == edge) && (other == peer) then bytes_in t (labels_of t journal) teller telling else [])
    ≡ flat_map (bytes_in t (labels_of t journal) edge) (if (teller == edge) && (other == peer) then telling ∷ [] else [])
tells_part t journal edge peer teller other telling = by_test ((teller == edge) && (other == peer))
    (λ h. ap (λ b. if b then bytes_in t (labels_of t journal) teller telling else []) h
    ∙ ap (λ e. bytes_in t (labels_of t journal) e telling) (same_numbers teller edge (and_left (teller == edge) (other == peer) h))
    ∙ sym (append-nil (bytes_in t (labels_of t journal) edge telling))
    ∙ sym (ap (λ b. flat_map (bytes_in t (labels_of t journal) edge) (if b then telling ∷ [] else [])) h))
    (λ h. ap (λ b. if b then bytes_in t (labels_of t journal) teller telling else []) h
    ∙ sym (ap (λ b. flat_map (bytes_in t (labels_of t journal) edge) (if b then telling ∷ [] else [])) h))

pub told_part : (t : Network) (journal : List JournalEntry) (tick place edge peer : ℕ) (made : Channel × Load) → IsOfChannel t made.0 made.1 →
    load_part t journal tick place made (file.Told edge peer) ≡ flat_map (bytes_in t (labels_of t journal) edge) (told_on edge peer made)
told_part t journal tick place edge peer (on.Notices m node, Notice) h = refl
told_part t journal tick place edge peer (on.Messages m end, Says message) h = refl
told_part t journal tick place edge peer (on.Routes teller other, Tells telling) h = tells_part t journal edge peer teller other telling
told_part t journal tick place edge peer (on.Frames m dir, Carries token) h = refl
told_part t journal tick place edge peer _ h = absurd h

-- 3. A message of LDP

-- an end of a link speaks away from itself
speaks : (t : Network) (l speaker : ℕ) (dir : Dir) → IsLawful t → l < length t.links → is_end (wiring_of t) l speaker ≡ true →
    is_dir (away_from t l speaker) dir ≡ (speaker == sender (wiring_of t) l dir)
speaks t l speaker dir lawful within at_end = by_test ((link (wiring_of t) l).a.0 == speaker) (at_a dir) (at_b dir)
  where
    apart : (link (wiring_of t) l).a.0 ≢ (link (wiring_of t) l).b.0
    apart = lawful.ends_differ l within

    at_a : (dir : Dir) → ((link (wiring_of t) l).a.0 == speaker) ≡ true → is_dir (away_from t l speaker) dir ≡ (speaker == sender (wiring_of t) l dir)
    at_a Forth h =
        ap (λ x. is_dir (if x then Forth else Back) Forth) h
        ∙ sym (ap (λ n. speaker == n) (same_numbers (link (wiring_of t) l).a.0 speaker h) ∙ same_test speaker)
    at_a Back h =
        ap (λ x. is_dir (if x then Forth else Back) Back) h
        ∙ sym (other_test speaker (link (wiring_of t) l).b.0 (λ e. apart (same_numbers (link (wiring_of t) l).a.0 speaker h ∙ e)))

    other_end : ((link (wiring_of t) l).a.0 == speaker) ≡ false → ((link (wiring_of t) l).b.0 == speaker) ≡ true
    other_end h = sym (ap (λ x. x || ((link (wiring_of t) l).b.0 == speaker)) h) ∙ at_end

    at_b : (dir : Dir) → ((link (wiring_of t) l).a.0 == speaker) ≡ false → is_dir (away_from t l speaker) dir ≡ (speaker == sender (wiring_of t) l dir)
    at_b Forth h =
        ap (λ x. is_dir (if x then Forth else Back) Forth) h
        ∙ sym (other_test speaker (link (wiring_of t) l).a.0 (λ e. other_numbers (link (wiring_of t) l).a.0 speaker h (sym e)))
    at_b Back h =
        ap (λ x. is_dir (if x then Forth else Back) Back) h
        ∙ sym (ap (λ n. speaker == n) (same_numbers (link (wiring_of t) l).b.0 speaker (other_end h)) ∙ same_test speaker)

-- it is the file of the end that speaks
pub is_said_by : (t : Network) (l m speaker : ℕ) (dir : Dir) → IsLawful t → m < length t.links → is_end (wiring_of t) m speaker ≡ true →
    ((m == l) && is_dir (away_from t m speaker) dir) ≡ ((m == l) && (speaker == sender (wiring_of t) l dir))
is_said_by t l m speaker dir lawful within at_end = by_test (m == l)
    (λ h. ap (λ b. (m == l) && b) (speaks t m speaker dir lawful within at_end ∙ ap (λ n. speaker == sender (wiring_of t) n dir) (same_numbers m l h)))
    (λ h. ap (λ b. b && is_dir (away_from t m speaker) dir) h ∙ sym (ap (λ b. b && (speaker == sender (wiring_of t) l dir)) h))

-- 4. No load is written to the other files

pub in_no_other : (t : Network) (journal : List JournalEntry) (tick place : ℕ) (made : Channel × Load) (out : OutputFile) →
    ((own : OutputFile) → file_for (channel_of t made.0) ≡ Some own → same_file own out ≡ false) → load_part t journal tick place made out ≡ []
in_no_other t journal tick place made out none = by (file_for (channel_of t made.0)) refl
  where
    by : (own : Option OutputFile) → file_for (channel_of t made.0) ≡ own →
        in_file (file_for (channel_of t made.0)) (piece_of tick (channel_of t made.0) (bytes_on t journal place made.0 made.1)) out ≡ []
    by None e = ap (λ o. in_file o (piece_of tick (channel_of t made.0) (bytes_on t journal place made.0 made.1)) out) e
    by (Some own) e =
        ap (λ o. in_file o (piece_of tick (channel_of t made.0) (bytes_on t journal place made.0 made.1)) out) e
        ∙ ap (λ b. if b then piece_of tick (channel_of t made.0) (bytes_on t journal place made.0 made.1) else []) (none own e)
