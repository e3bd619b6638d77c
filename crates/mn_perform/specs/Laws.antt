-- What follows of what a recorder keeps.
use Rattle.std.proofs.Common.{◌≡◌, ℕ, Bool, true, false, List, length, Option, Some, None, refl, sym, ◌∙◌, ap, subst}
use Rattle.std.proofs.lemmas.List.{length-map}
use Rattle.mn_edge.specs.Files.{Files, file}
use Rattle.mn_edge.specs.Written.{is_known}
use Rattle.mn_edge.specs.Kept.{Framed}
use Rattle.mn_base.proofs.Rules.{some_is}
use Rattle.mn_edge.specs.KeptLaws.{begins_on, framed_same, framed_both}
use Rattle.mn_topo.specs.Network.{Network}
use Rattle.mn_topo.specs.declared.steps.JournalEntry.{JournalEntry}
use Rattle.mn_pcap.specs.Reading.{bytes_at, packet_of}
use Rattle.mn_capture.specs.Packets.{CaptureView, packets_in}
use Rattle.mn_perform.specs.Recorded.{BooksNow, told_packets, packets_there}
use Rattle.mn_perform.specs.Watched.{Holding, Beginning, GoesOn}

-- a packet for each record
pub has_each : (files : Option Files) (names : List (List ℕ)) (capture : CaptureView) (all : List (List ℕ)) → told_packets files names capture ≡ Some all →
    length all ≡ length capture.places
has_each None names capture all is = absurd (let e : None ≡ Some all = is in cc)
has_each (Some files) names capture all is = by (is_known names capture.name) (file files capture.name) is
  where
    by : (known : Bool) (bytes : Option (List ℕ)) → packets_there known capture bytes ≡ Some all → length all ≡ length capture.places
    by true bytes e = absurd (let f : None ≡ Some all = e in cc)
    by false None e = absurd (let f : None ≡ Some all = e in cc)
    by false (Some bytes) e =
        ap length (sym (some_is (packets_in capture bytes) all e)) ∙ length-map capture.places (λ place. packet_of capture.link (bytes_at bytes place))

-- the capture's packets stay, since its file isn't one of those that are written
pub same_packets : (names : List (List ℕ)) (capture : CaptureView) (before after : Option Files) → Framed names before after →
    told_packets after names capture ≡ told_packets before names capture
same_packets names capture None after framed = ap (λ f. told_packets f names capture) (framed.silent refl)
same_packets names capture (Some before) after framed =
    let x = framed.others before refl in
    ap (λ f. told_packets f names capture) x.1 ∙ by (is_known names capture.name) refl x.0 (x.2 capture.name)
  where
    by : (known : Bool) → is_known names capture.name ≡ known → (now : Files) →
        (is_known names capture.name ≡ false → file now capture.name ≡ file before capture.name) →
        packets_there (is_known names capture.name) capture (file now capture.name) ≡ packets_there (is_known names capture.name) capture
        (file before capture.name)
    by true e now same = ap (λ k. packets_there k capture (file now capture.name)) e ∙ sym (ap (λ k. packets_there k capture (file before capture.name)) e)
    by false e now same = ap (packets_there (is_known names capture.name) capture) (same e)

-- where packets are told they are those that the capture's file has
pub record AreThere (files : Option Files) (capture : CaptureView) (all : List (List ℕ)) : Type 0 where
  pub now : Files
  pub told : files ≡ Some now
  pub bytes : List ℕ
  pub there : file now capture.name ≡ Some bytes
  pub packets : packets_in capture bytes ≡ all

pub packets_are_there : (files : Option Files) (names : List (List ℕ)) (capture : CaptureView) (all : List (List ℕ)) →
    told_packets files names capture ≡ Some all → AreThere files capture all
packets_are_there None names capture all is = absurd (let e : None ≡ Some all = is in cc)
packets_are_there (Some files) names capture all is = by (is_known names capture.name) (file files capture.name) refl is
  where
    by : (known : Bool) (bytes : Option (List ℕ)) → file files capture.name ≡ bytes → packets_there known capture bytes ≡ Some all →
        AreThere (Some files) capture all
    by true bytes there e = absurd (let f : None ≡ Some all = e in cc)
    by false None there e = absurd (let f : None ≡ Some all = e in cc)
    by false (Some bytes) there e =
        record { now = files; told = refl; bytes = bytes; there = there; packets = some_is (packets_in capture bytes) all e }

-- where files stay, so do packets, what is recorded, and all else
pub packets_stay : (names : List (List ℕ)) (capture : CaptureView) (before after : Option Files) → after ≡ before →
    told_packets after names capture ≡ told_packets before names capture
packets_stay names capture before after same = ap (λ f. told_packets f names capture) same

pub holding_stays : (books : BooksNow) (capture : CaptureView) (before after : Option Files) (topology : Network) (journal : List JournalEntry) →
    after ≡ before → Holding books capture before topology journal → Holding books capture after topology journal
holding_stays books capture before after topology journal same holding = subst (λ f. Holding books capture f topology journal) (sym same) holding

pub goes_on_same : (books : BooksNow) (capture : CaptureView) (files : Option Files) → GoesOn books books capture capture files files
goes_on_same books capture files = record { names = refl; places = refl; capture = refl; framed = framed_same books.names files }

-- so packets stay
pub goes_on_packets : (old new : BooksNow) (earlier later : CaptureView) (before after : Option Files) → GoesOn old new earlier later before after →
    told_packets after new.names later ≡ told_packets before old.names earlier
goes_on_packets old new earlier later before after goes =
    ap (λ n. told_packets after n later) goes.names ∙ ap (told_packets after old.names) goes.capture ∙ same_packets old.names earlier before after goes.framed

pub goes_on_both : (a b c : BooksNow) (x y z : CaptureView) (f g h : Option Files) → GoesOn a b x y f g → GoesOn b c y z g h → GoesOn a c x z f h
goes_on_both a b c x y z f g h one other = record {
  names = other.names ∙ one.names;
  places = other.places ∙ one.places;
  capture = other.capture ∙ one.capture;
  framed = framed_both a.names f g h one.framed (subst (λ n. Framed n g h) one.names other.framed);
}

pub goes_on_stays : (books : BooksNow) (capture : CaptureView) (before after : Option Files) → after ≡ before →
    GoesOn books books capture capture before after
goes_on_stays books capture before after same = subst (λ f. GoesOn books books capture capture before f) (sym same) (goes_on_same books capture before)

-- what was recorded of a journal begins it
pub begun_of : (books : BooksNow) (capture : CaptureView) (files : Option Files) (topology : Network) (journal : List JournalEntry) →
    Holding books capture files topology journal → Beginning books capture files topology journal
begun_of books capture files topology journal holding = λ all told. begins_on _ _ _ _ (holding.1 all told)
