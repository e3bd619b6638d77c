-- Lists that grow by one.
use Rattle.std.proofs.Common.{◌≡◌, ◌+◌, ◌<◌, ◌≤◌, ℕ, List, [], ◌∷◌, ◌++◌, length, map, get_or, take, ◌∙◌, ap}
use Rattle.std.proofs.lemmas.List.{append-nil, map-append, take_all, take_more}
use Rattle.std.proofs.lemmas.Grind.{flat_map-append}
use Rattle.mn_topo.specs.declared.steps.JournalEntry.{JournalEntry}
use Rattle.mn_join_laws.specs.Pairing.{Pairing, Both, no_travel, travel}
use Rattle.mn_join_run.specs.Report.{site_of, sites_of, end_of, ends_of}

-- the sites of one step more
pub sites_more : (entries : List JournalEntry) (i : ℕ) (d : JournalEntry) → i < length entries →
    sites_of (take (i + 1) entries) ≡ sites_of (take i entries) ++ site_of (get_or entries i d).step
sites_more entries i d below =
    ap sites_of (take_more entries i d below) ∙ flat_map-append (λ (entry : JournalEntry). site_of entry.step) (take i entries) (get_or entries i d ∷ [])
    ∙ ap (λ ys. sites_of (take i entries) ++ ys) (append-nil (site_of (get_or entries i d).step))

-- the ends of one packet more
pub ends_more : (pairing : Pairing) (both : Both) (i : ℕ) → i < length both.travels →
    map (end_of pairing both) (take (i + 1) both.travels) ≡ map (end_of pairing both) (take i both.travels) ++ end_of pairing both (travel both i) ∷ []
ends_more pairing both i below =
    ap (map (end_of pairing both)) (take_more both.travels i no_travel below) ∙ map-append (end_of pairing both) (take i both.travels) (travel both i ∷ [])

pub ends_all : (pairing : Pairing) (both : Both) (i : ℕ) → length both.travels ≤ i → map (end_of pairing both) (take i both.travels) ≡ ends_of pairing both
ends_all pairing both i past = ap (map (end_of pairing both)) (take_all i both.travels past)
