-- What stands outside goes on with texts and bytes, or is cut off.
use Rattle.std.proofs.Common.{ℕ, List, ◌++◌, append_assoc, Option, sym, ◌∙◌, ap}
use Rattle.mn_edge.specs.Files.{Files}
use Rattle.mn_edge.specs.KeptLaws.{begins_on, begins_on_more}
use Rattle.mn_edge.specs.Written.{IsPrefix}
use Rattle.mn_lines.specs.Putting.{Puts, PutsPart}
use Rattle.mn_lines.proofs.Putting.{part_of}
use Rattle.mn_join_run.specs.Outside.{Outside, Start, Stands, IsCut, Holding, Beginning}

-- a call has put a text, or a first part of it
abbrev pub PutsOn : List ℕ → Outside → Outside → Type 0
PutsOn text old new = Puts text old.waits new.waits old.written new.written

abbrev pub PutsPartOn : List ℕ → Outside → Outside → Type 0
PutsPartOn text old new = PutsPart text old.waits old.written new.written

-- the file has grown by some bytes, or by a first part of them
abbrev pub GrowsOn : List (List ℕ) → List ℕ → Outside → Outside → Type 0
GrowsOn names bytes old new = (before : List ℕ) → Holding names before old.held old.files → Holding names (before ++ bytes) new.held new.files

abbrev pub GrowsPartOn : List (List ℕ) → List ℕ → Outside → Outside → Type 0
GrowsPartOn names bytes old new = (before : List ℕ) → Holding names before old.held old.files → Beginning names (before ++ bytes) new.files

pub prefix_trans : (a b c : List ℕ) → IsPrefix a b → IsPrefix b c → IsPrefix a c
prefix_trans a b c h g = (h.0 ++ g.0, sym (append_assoc a h.0 g.0) ∙ ap (λ l. l ++ g.0) h.1 ∙ g.1)

-- what was cut off is so of more text and more bytes
pub cut_more : (start : Start) (text more bytes longer : List ℕ) (now : Outside) → IsPrefix text more → IsPrefix bytes longer → IsCut start text bytes now →
    IsCut start more longer now
cut_more start text more bytes longer now t b cut = record {
  text = λ before is. let p = cut.text before is in (p.0, prefix_trans p.0 text more p.1 t, p.2);
  file = λ base is. begins_on_more start.names (λ _. bytes) (λ _. longer) now.files (λ k. b) (cut.file base is);
}

-- what stands may be cut off
pub cut_here : (start : Start) (text bytes : List ℕ) (now : Outside) → Stands start text bytes now → IsCut start text bytes now
cut_here start text bytes now stands = record {
  text = λ before is. part_of before text now.waits now.written (stands.text before is);
  file = λ base is. begins_on start.names (λ _. bytes) now.held now.files (stands.file base is);
}

-- the file has grown, and nothing was put
pub file_on : (start : Start) (text bytes more : List ℕ) (waits : List ℕ) (written : Option (List ℕ)) (held later : List (List ℕ)) (f g : Option Files) →
    ((before : List ℕ) → Holding start.names before held f → Holding start.names (before ++ more) later g) →
    Stands start text bytes (record { waits = waits; written = written; held = held; files = f }) →
    Stands start text (bytes ++ more) (record { waits = waits; written = written; held = later; files = g })
file_on start text bytes more waits written held later f g grown stands =
    record { text = stands.text; file = λ base is. grown bytes (stands.file base is) }

-- a text was put, and the file is as it was
pub text_on : (start : Start) (text bytes more : List ℕ) (waits waiting : List ℕ) (written now : Option (List ℕ)) (held : List (List ℕ)) (f : Option Files) →
    Puts more waits waiting written now →
    Stands start text bytes (record { waits = waits; written = written; held = held; files = f }) →
    Stands start (text ++ more) bytes (record { waits = waiting; written = now; held = held; files = f })
text_on start text bytes more waits waiting written now held f put stands =
    record { text = λ before is. put before text (stands.text before is); file = stands.file }

-- the file was cut off, and nothing was put
pub file_cut : (start : Start) (text bytes more : List ℕ) (waits waiting : List ℕ) (written : Option (List ℕ)) (held later : List (List ℕ))
    (f g : Option Files) →
    ((before : List ℕ) → Holding start.names before held f → Beginning start.names (before ++ more) g) →
    Stands start text bytes (record { waits = waits; written = written; held = held; files = f }) →
    IsCut start text (bytes ++ more) (record { waits = waiting; written = written; held = later; files = g })
file_cut start text bytes more waits waiting written held later f g grown stands = record {
  text = λ before is. part_of before text waits written (stands.text before is);
  file = λ base is. grown bytes (stands.file base is);
}

-- the text was cut off, and the file is as it was
pub text_cut : (start : Start) (text bytes more : List ℕ) (waits waiting : List ℕ) (written now : Option (List ℕ)) (held later : List (List ℕ))
    (f : Option Files) →
    PutsPart more waits written now →
    Stands start text bytes (record { waits = waits; written = written; held = held; files = f }) →
    IsCut start (text ++ more) bytes (record { waits = waiting; written = now; held = later; files = f })
text_cut start text bytes more waits waiting written now held later f put stands = record {
  text = λ before is. put before text (stands.text before is);
  file = λ base is. begins_on start.names (λ _. bytes) held f (stands.file base is);
}
