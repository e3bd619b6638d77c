-- The whole of a link's .pcap: each frame that was sent over it, with the labels of the moment at which it was sent.
use Rattle.std.proofs.Common.{ℕ, suc, ◌≡◌, ◌+◌, ◌-◌, inl, inr, List, [], ◌∷◌, ◌++◌, length, refl, arith, sym, ap, ◌∙◌, append_assoc, append-nil}
use Rattle.std.specs.List.{flat_map}
use Rattle.std.proofs.lemmas.List.Concat.{flat_map-append}
use Rattle.mn_base.proofs.Members.{In}
use Rattle.mn_pcap.specs.Format.{header}
use Rattle.mn_topo.specs.Network.{Network}
use Rattle.mn_topo.specs.declared.steps.JournalEntry.{JournalEntry}
use Rattle.mn_ledger.specs.Ledger.{next_of, world_of, packets_of}
use Rattle.mn_ledger.specs.OneMore.{made_then}
use Rattle.mn_ledger.specs.Items.{Channel, Load, Item, delay_on, numbered, made_by}
use Rattle.mn_frame_laws.specs.Given.{Labelling, given}
use Rattle.mn_course_laws.specs.Course.{input_before, inputs_of}
use Rattle.mn_output_laws.specs.Moments.{labels_when}
use Rattle.mn_output_laws.specs.Files as out
use Rattle.mn_output_laws.specs.Contents.{ppp, frame_record, contents, whole}
use Rattle.mn_output_laws.specs.Lists.{sent_bytes, frames_file}
use Rattle.mn_output_laws.proofs.Adding.{adding}
use Rattle.mn_output_laws.proofs.Deliveries.{by_last, its_packet}
use Rattle.mn_output_laws.proofs.When.{made_by_entry, made_more, old_labels, new_labels}

-- 1. Lists

pub same_all : {A : Type 0} (f g : A → List ℕ) (xs : List A) → ((x : A) → In xs x → f x ≡ g x) → flat_map f xs ≡ flat_map g xs
same_all f g [] h = refl
same_all f g (x ∷ xs) h = ap (λ r. r ++ flat_map f xs) (h x (inl refl)) ∙ ap (λ r. g x ++ r) (same_all f g xs (λ y i. h y (inr i)))

back : (tick delay : ℕ) → tick + delay - delay ≡ tick
back tick delay = omega arith

-- what is made at a tick is written at that tick
of_numbered : (t : Network) (labels : Labelling) (l tick n : ℕ) (made : List (Channel × Load)) →
    flat_map (sent_bytes t (λ number. labels) l) (numbered t tick n made) ≡ flat_map (frame_record t labels tick l) made
of_numbered t labels l tick n [] = refl
of_numbered t labels l tick n (m ∷ ms) =
    ap (λ k. frame_record t labels k l m ++ flat_map (sent_bytes t (λ number. labels) l) (numbered t tick (n + 1) ms)) (back tick (delay_on t m.0))
    ∙ ap (λ r. frame_record t labels tick l m ++ r) (of_numbered t labels l tick (n + 1) ms)

-- 2. The law

module _ (t : Network) (capture : List (List ℕ)) (l : ℕ) where
  abbrev IsWritten : List JournalEntry → Type 0
  IsWritten es = contents t capture es (out.Frames l) ≡ frames_file t capture es l

  one_more : (es : List JournalEntry) (e : JournalEntry) → IsWritten es → IsWritten (es ++ e ∷ [])
  one_more es e h =
      let later : List JournalEntry = es ++ e ∷ [] in
      let made : List ℕ → List (Channel × Load) = λ packet. made_then t (world_of t es) (packets_of t es (inputs_of capture es)) e packet in
      let old : List Item = made_by t es (inputs_of capture es) in
      let new : List (Channel × Load) = made_by_entry t capture es e in
      let fresh : List Item = numbered t e.tick (length old) new in
      let sent : (ℕ → Labelling) → Item → List ℕ = λ labels item. sent_bytes t labels l item in
      let records : List (Channel × Load) → List ℕ = flat_map (frame_record t (given t later) e.tick l) in
      let before : List ℕ = flat_map (sent (labels_when t capture es)) old in
      let after : List ℕ = flat_map (sent (labels_when t capture later)) old in
      adding t capture es e (out.Frames l)
      ∙ ap (λ r. r ++ records (made (next_of (input_before capture e.step [])))) h
      ∙ ap (λ packet. frames_file t capture es l ++ records (made packet)) (its_packet capture e.step)
      ∙ append_assoc (header ppp) before (records new)
      ∙ ap (λ r. header ppp ++ r)
      (ap (λ r. r ++ records new)
      (same_all (sent (labels_when t capture es)) (sent (labels_when t capture later)) old
      (λ item i. ap (λ given. sent (λ number. given) item) (old_labels t capture es e item i)))
      ∙ ap (λ r. after ++ r)
      (sym (of_numbered t (given t later) l e.tick (length old) new)
      ∙ sym (same_all (sent (labels_when t capture later)) (sent (λ number. given t later)) fresh
      (λ item i. ap (λ given. sent (λ number. given) item) (new_labels t capture es e item i))))
      ∙ sym (flat_map-append (sent (labels_when t capture later)) old fresh)
      ∙ ap (flat_map (sent (labels_when t capture later))) (sym (made_more t capture es e)))

  pub frames_are_written : (es : List JournalEntry) → whole t capture es (out.Frames l) ≡ frames_file t capture es l
  frames_are_written es = append-nil (contents t capture es (out.Frames l)) ∙ by_last IsWritten one_more refl es
