-- A journal, read line by line.
use Rattle.std.proofs.Common.{◌≡◌, ℕ, suc, true, List, [], ◌∷◌, ◌++◌, Some, refl, ap, sym, ◌∙◌, arith}
use Rattle.std.proofs.Common.{append_assoc}
use Rattle.std.specs.Prelude.{All, map}
use Rattle.std.proofs.lemmas.List.{map-append}
use Rattle.mn_text.specs.Words.{words}
use Rattle.mn_topo.specs.Lawful.{IsLawful}
use Rattle.mn_topo.specs.Network.{Network}
use Rattle.mn_entry.specs.Entries.{entry_fits}
use Rattle.mn_topo.specs.declared.steps.JournalEntry.{JournalEntry}
use Rattle.mn_journal.specs.Lines.{text_of, IsEntry}
use Rattle.mn_journal.specs.Reading.{asked_by, IsText, AllFit}
use Rattle.mn_journal.proofs.Words.{asked_again}

-- an entry whose text asks for it
pub record IsRead (network : Network) (entry : JournalEntry) : Type 0 where
  pub fit : entry_fits network entry ≡ true
  pub asked : asked_by network (words (text_of network entry)) ≡ Some entry

pub text_read : (network : Network) (line : List ℕ) (entry : JournalEntry) → IsText network line entry → IsRead network entry
text_read network line entry is = record { fit = is.fit; asked = ap (λ text. asked_by network (words text)) (sym is.text) ∙ is.asked }

pub all_fit : (network : Network) (entries : List JournalEntry) → All (IsRead network) entries → AllFit network entries
all_fit network entries all = λ k d below. (all k d below).fit

-- one line more
pub one_more : (network : Network) (all : List (List ℕ)) (done new : List JournalEntry) (line : List ℕ) (rest next : List (List ℕ)) (entry : JournalEntry)
    → all ≡ map (text_of network) done ++ rest → rest ≡ line ∷ next → line ≡ text_of network entry → new ≡ done ++ entry ∷ [] →
    all ≡ map (text_of network) new ++ next
one_more network all done new line rest next entry before first is pushed =
    before
    ∙ ap (λ ls. map (text_of network) done ++ ls) (first ∙ ap (λ l. l ∷ next) is)
    ∙ sym (append_assoc (map (text_of network) done) (text_of network entry ∷ []) next)
    ∙ ap (λ ls. ls ++ next) (sym (map-append (text_of network) done (entry ∷ [])) ∙ ap (map (text_of network)) (sym pushed))

-- entries whose texts are the same
pub same_entries : (network : Network) (found entries : List JournalEntry) → IsLawful network → All (IsRead network) found → All (IsEntry network) entries →
    map (text_of network) found ≡ map (text_of network) entries → found ≡ entries
same_entries network [] [] lawful one other is = refl
same_entries network [] (entry ∷ entries) lawful one other is = cc
same_entries network (found ∷ more) [] lawful one other is = cc
same_entries network (found ∷ more) (entry ∷ entries) lawful one other is =
    let text : text_of network found ≡ text_of network entry = cc in
    let texts : map (text_of network) more ≡ map (text_of network) entries = cc in
    let first : Some found ≡ Some entry =
    sym (one 0 found (omega arith)).asked ∙ ap (λ t. asked_by network (words t)) text
    ∙ asked_again network entry lawful (other 0 entry (omega arith)) in
    let same : found ≡ entry = cc in
    let later = same_entries network more entries lawful (λ k d below. one (suc k) d (omega arith)) (λ k d below. other (suc k) d (omega arith)) texts in
    cc

-- a line that is the text of no entry isn't among those that were written
pub none_bad : (network : Network) (done entries : List JournalEntry) (line : List ℕ) (next : List (List ℕ)) → All (IsEntry network) entries
    → ((entry : JournalEntry) → IsEntry network entry → line ≡ text_of network entry → ⊥) →
    map (text_of network) entries ≡ map (text_of network) done ++ line ∷ next → ⊥
none_bad network [] [] line next all bad is = cc
none_bad network [] (entry ∷ entries) line next all bad is = bad entry (all 0 entry (omega arith)) (let same : text_of network entry ≡ line = cc in sym same)
none_bad network (one ∷ done) [] line next all bad is = cc
none_bad network (one ∷ done) (entry ∷ entries) line next all bad is =
    let later : map (text_of network) entries ≡ map (text_of network) done ++ line ∷ next = cc in
    none_bad network done entries line next (λ k d below. all (suc k) d (omega arith)) bad later
