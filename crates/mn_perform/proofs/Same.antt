-- Files by their numbers.
use Rattle.std.proofs.Common.{◌≡◌, ℕ, ◌<◌, ◌==◌, ◌&&◌, Bool, true, false, if◌then◌else◌, List, [], ◌++◌, length, zero, suc, ◌+◌, ◌-◌, ◌≤◌, Option}
use Rattle.std.proofs.Common.{Some, None, refl, sym, ◌∙◌, ap, subst, append_assoc, arith, option_map}
use Rattle.std.proofs.lemmas.List.{append-nil}
use Rattle.mn_base.specs.declared.numbers.LinkNo.{LinkNo}
use Rattle.mn_wiring.specs.declared.links.Dir.{Dir}
use Rattle.mn_wiring.specs.declared.links.Dir.TheVariants.{Forth, Back}
use Rattle.mn_base.proofs.Bools.{and_left, and_right, same_test, same_numbers, not_both_ways}
use Rattle.mn_topo.specs.Network.{Network}
use Rattle.mn_topo.specs.declared.steps.JournalEntry.{JournalEntry}
use Rattle.mn_sched.specs.Channel.{Channel}
use Rattle.mn_sched.specs.Channel.TheVariants as channel
use Rattle.mn_sched.specs.Told.{Told, told_at}
use Rattle.mn_output_laws.specs.Files.{OutputFile, Journal, Labels, Deliveries, Frames, Said, files_of}
use Rattle.mn_output_laws.specs.Files as file
use Rattle.mn_files.specs.Numbers.{IsNumber, IsPlace, file_at, edge_places}
use Rattle.mn_files.proofs.Places.{one_number}
use Rattle.mn_perform.specs.Adding.{only_in}
use Rattle.mn_perform.specs.Parts.{same_file, is_dir, in_file, file_for, piece_of, item_part, items_part, IsFileOf}

-- by a test
pub by_test : {P : Type 0} (b : Bool) → (b ≡ true → P) → (b ≡ false → P) → P
by_test true holds fails = holds refl
by_test false holds fails = fails refl

is_dir-refl : (dir : Dir) → is_dir dir dir ≡ true
is_dir-refl Forth = refl
is_dir-refl Back = refl

pub is_dir-eq : (dir other : Dir) → is_dir dir other ≡ true → dir ≡ other
is_dir-eq Forth Forth h = refl
is_dir-eq Back Back h = refl
is_dir-eq Forth Back h = absurd (let e : false ≡ true = h in cc)
is_dir-eq Back Forth h = absurd (let e : false ≡ true = h in cc)

both_true : (a b : Bool) → a ≡ true → b ≡ true → (a && b) ≡ true
both_true true true h k = refl
both_true true false h k = k
both_true false b h k = h

pub same_file-refl : (out : OutputFile) → same_file out out ≡ true
same_file-refl Journal = refl
same_file-refl Labels = refl
same_file-refl Deliveries = refl
same_file-refl (Frames l) = same_test l
same_file-refl (Said l dir) = both_true (l == l) (is_dir dir dir) (same_test l) (is_dir-refl dir)
same_file-refl (file.Told edge peer) = both_true (edge == edge) (peer == peer) (same_test edge) (same_test peer)

pub same_file-eq : (a b : OutputFile) → same_file a b ≡ true → a ≡ b
same_file-eq Journal Journal h = refl
same_file-eq Labels Labels h = refl
same_file-eq Deliveries Deliveries h = refl
same_file-eq (Frames l) (Frames m) h = ap (λ n. Frames n) (same_numbers l m h)
same_file-eq (Said l dir) (Said m other) h =
    ap (λ n. Said n dir) (same_numbers l m (and_left (l == m) (is_dir dir other) h))
    ∙ ap (λ d. Said m d) (is_dir-eq dir other (and_right (l == m) (is_dir dir other) h))
same_file-eq (file.Told edge peer) (file.Told other_edge other) h =
    ap (λ n. file.Told n peer) (same_numbers edge other_edge (and_left (edge == other_edge) (peer == other) h))
    ∙ ap (λ n. file.Told other_edge n) (same_numbers peer other (and_right (edge == other_edge) (peer == other) h))
same_file-eq _ _ h = absurd (let e : false ≡ true = h in cc)

-- bytes for the file of a number are bytes for the file
pub in_place : (t : Network) (own : OutputFile) (number k : ℕ) (bytes : List ℕ) → IsNumber t number own → k < length (files_of t) →
    only_in number bytes k ≡ in_file (Some own) bytes (file_at t k)
in_place t own number k bytes is within = by_test (number == k) here elsewhere
  where
    own_at : number ≡ k → file_at t k ≡ own
    own_at e = ap (file_at t) (sym e) ∙ is.is

    here : (number == k) ≡ true → only_in number bytes k ≡ in_file (Some own) bytes (file_at t k)
    here h =
        ap (λ b. if b then bytes else []) h
        ∙ sym (ap (λ b. if b then bytes else []) (ap (same_file own) (own_at (same_numbers number k h)) ∙ same_file-refl own))

    apart : (number == k) ≡ false → same_file own (file_at t k) ≡ true → ⊥
    apart h same =
        let is_k : IsNumber t k own =
        record { within = within; is = sym (same_file-eq own (file_at t k) same) } in
        let e : number ≡ k = one_number t number k own is is_k in
        not_both_ways (number == k) (ap (λ n. number == n) (sym e) ∙ same_test number) h

    elsewhere : (number == k) ≡ false → only_in number bytes k ≡ in_file (Some own) bytes (file_at t k)
    elsewhere h =
        ap (λ b. if b then bytes else []) h
        ∙ sym (ap (λ b. if b then bytes else []) (by_test (same_file own (file_at t k)) (λ same. absurd (apart h same)) (λ other. other)))

-- where no file is there, there are none
pub no_place : (t : Network) (own : OutputFile) (k : ℕ) (bytes : List ℕ) → IsPlace t own None → k < length (files_of t) →
    [] ≡ in_file (Some own) bytes (file_at t k)
no_place t own k bytes none within = sym (ap (λ b. if b then bytes else []) (by_test (same_file own (file_at t k)) apart (λ other. other)))
  where
    apart : same_file own (file_at t k) ≡ true → same_file own (file_at t k) ≡ false
    apart same = absurd (none k within (sym (same_file-eq own (file_at t k) same)))

-- 2. An item's file

-- what an item adds to the file of its number
placed_part : (t : Network) (tick number k : ℕ) (told : Told) → IsFileOf t (file_for told.channel) (Some number) → k < length (files_of t) →
    only_in number (piece_of tick told.channel told.bytes) k ≡ item_part tick (Some told) (file_at t k)
placed_part t tick number k told is within = by (file_for told.channel) refl is
  where
    by : (own : Option OutputFile) → file_for told.channel ≡ own → IsFileOf t own (Some number) →
        only_in number (piece_of tick told.channel told.bytes) k ≡ in_file (file_for told.channel) (piece_of tick told.channel told.bytes) (file_at t k)
    by None e has = absurd (let f : Some number ≡ None = has in cc)
    by (Some own) e has =
        in_place t own number k (piece_of tick told.channel told.bytes) has within
        ∙ sym (ap (λ o. in_file o (piece_of tick told.channel told.bytes) (file_at t k)) e)

-- one without a file adds nothing
unplaced_part : (t : Network) (tick k : ℕ) (told : Told) → IsFileOf t (file_for told.channel) None → k < length (files_of t) →
    item_part tick (Some told) (file_at t k) ≡ []
unplaced_part t tick k told is within = by (file_for told.channel) refl is
  where
    by : (own : Option OutputFile) → file_for told.channel ≡ own → IsFileOf t own None →
        in_file (file_for told.channel) (piece_of tick told.channel told.bytes) (file_at t k) ≡ []
    by None e has = ap (λ o. in_file o (piece_of tick told.channel told.bytes) (file_at t k)) e
    by (Some own) e has =
        ap (λ o. in_file o (piece_of tick told.channel told.bytes) (file_at t k)) e
        ∙ sym (no_place t own k (piece_of tick told.channel told.bytes) has within)

-- what the net answered of an item, or of a delivery, as it is told
pub some_told : {A B : Type 0} (f : A → B) (o : Option A) (a : A) (told : Option B) → o ≡ Some a → option_map f o ≡ told → Some (f a) ≡ told
some_told f o a told is same = sym (ap (option_map f) is) ∙ same

pub none_told : {A B : Type 0} (f : A → B) (o : Option A) (told : Option B) → o ≡ None → option_map f o ≡ told → None ≡ told
none_told f o told is same = sym (ap (option_map f) is) ∙ same

-- the file that was found for a channel
pub file_found : (seen t : Network) (places : List ℕ) (own : Option OutputFile) (o found : Option ℕ) → seen ≡ t → o ≡ found →
    (places ≡ edge_places seen → IsFileOf seen own o) → places ≡ edge_places t → IsFileOf t own found
file_found seen t places own o found topology is finds table =
    subst (λ u. IsFileOf u own found) topology (subst (λ x. IsFileOf seen own x) is (finds (table ∙ ap edge_places (sym topology))))

-- an item that is written, by its bytes
pub written_part : (t : Network) (tick number k : ℕ) (told : Told) (item : Option Told) (bytes : List ℕ) → Some told ≡ item →
    bytes ≡ piece_of tick told.channel told.bytes → IsFileOf t (file_for told.channel) (Some number) → k < length (files_of t) →
    only_in number bytes k ≡ item_part tick item (file_at t k)
written_part t tick number k told item bytes is_told is_piece is_file within =
    ap (λ l. only_in number l k) is_piece ∙ placed_part t tick number k told is_file within ∙ ap (λ o. item_part tick o (file_at t k)) is_told

-- and one that is written to no file
pub unwritten_part : (t : Network) (tick k : ℕ) (told : Told) (item : Option Told) → Some told ≡ item → IsFileOf t (file_for told.channel) None →
    k < length (files_of t) → item_part tick item (file_at t k) ≡ []
unwritten_part t tick k told item is_told no_file within =
    sym (ap (λ o. item_part tick o (file_at t k)) is_told) ∙ unplaced_part t tick k told no_file within

-- what is no frame is written as it is
pub as_it_is : (tick : ℕ) (of : Channel) (bytes : List ℕ) → ((link : LinkNo) (dir : Dir) → of ≡ channel.Frame link dir → ⊥) → piece_of tick of bytes ≡ bytes
as_it_is tick (channel.Frame link dir) bytes none = absurd (none link dir refl)
as_it_is tick (channel.Notice link node) bytes none = refl
as_it_is tick (channel.Ldp link dir) bytes none = refl
as_it_is tick (channel.Bgp edge peer) bytes none = refl

-- 3. Items one after another

pub items_more : (t : Network) (journal : List JournalEntry) (inputs : List (List ℕ)) (tick first fewer more : ℕ) (out : OutputFile) → fewer ≤ more →
    (rest : List ℕ) × (items_part t journal inputs tick first fewer out ++ rest ≡ items_part t journal inputs tick first more out)
items_more t journal inputs tick first fewer more out le =
    subst (λ n. (rest : List ℕ) × (items_part t journal inputs tick first fewer out ++ rest ≡ items_part t journal inputs tick first n out))
    (let e : fewer + (more - fewer) ≡ more = omega arith in e) (on (more - fewer))
  where
    on : (n : ℕ) → (rest : List ℕ) × (items_part t journal inputs tick first fewer out ++ rest ≡ items_part t journal inputs tick first (fewer + n) out)
    on zero = (
      [],
      append-nil (items_part t journal inputs tick first fewer out)
          ∙ ap (λ n. items_part t journal inputs tick first n out) (let e : fewer ≡ fewer + 0 = omega arith in e),
    )
    on (suc n) =
        let x = on n in (
          x.0 ++ item_part tick (told_at t journal inputs (first + (fewer + n))) out,
          sym (append_assoc (items_part t journal inputs tick first fewer out) x.0 (item_part tick (told_at t journal inputs (first + (fewer + n))) out))
              ∙ ap (λ l. l ++ item_part tick (told_at t journal inputs (first + (fewer + n))) out) x.1
              ∙ ap (λ m. items_part t journal inputs tick first m out) (let e : suc (fewer + n) ≡ fewer + suc n = omega arith in e),
        )

-- with the next
pub next_item : (t : Network) (journal : List JournalEntry) (inputs : List (List ℕ)) (tick first number : ℕ) (out : OutputFile) → first ≤ number →
    items_part t journal inputs tick first (number - first) out ++ item_part tick (told_at t journal inputs number) out
    ≡ items_part t journal inputs tick first (number + 1 - first) out
next_item t journal inputs tick first number out le =
    ap (λ n. items_part t journal inputs tick first (number - first) out ++ item_part tick (told_at t journal inputs n) out)
    (let e : number ≡ first + (number - first) = omega arith in e)
    ∙ ap (λ n. items_part t journal inputs tick first n out) (let e : suc (number - first) ≡ number + 1 - first = omega arith in e)
