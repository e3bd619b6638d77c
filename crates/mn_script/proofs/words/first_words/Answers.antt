use Rattle.std.proofs.Common.{◌<◌, ◌+◌, length, take, set, sym, ◌∙◌, arith}
use Rattle.std.proofs.lemmas.List.{length-set}
use Rattle.mn_script.proofs.Wording.{stored, word_joins, before_comment, first_six}
use Rattle.mn_script.proofs.words.first_words.Goals as goal
use Rattle.mn_script.proofs.words.first_words.Goals.{then-is_comment-via-then-is_comment, then-is_comment-via-else-is_comment+then-count-eq-MOST_WORDS}

pub words-preserved : goal.words-preserved
words-preserved c =
    let found = c.words.found in
    let count = c.words.count in
    let word = c.in-Some.word in
    let plain = sym c.is_comment.ensures ∙ c.if-is_comment.false in
    let there : count < length found = omega (arith, c.words.invariant.room, c.words.invariant.few) in
    record {
      same =
          word_joins (take count found) (take (count + 1) (set found count word)) word c.in-Some.next.now c.words.rest.now c.args.line.now
          (stored found count word there) c.in-Some.ensures.first plain c.words.invariant.same;
      few = omega arith;
      room = length-set found count word ∙ c.words.invariant.room;
    }

pub returns-then-is_comment-clause-words : goal.returns-then-is_comment-clause-words
returns-then-is_comment-clause-words c =
    elim c.then-is_comment.branch [
      | then-is_comment-via-then-is_comment w ↦
          before_comment c.words.found c.words.count c.in-Some.word.now c.in-Some.next.now c.words.rest.now c.args.line.now
          c.in-Some.ensures.first (sym c.is_comment.ensures ∙ w.if-is_comment.true) c.words.invariant.room c.words.invariant.few c.words.invariant.same
      | then-is_comment-via-else-is_comment+then-count-eq-MOST_WORDS w ↦
          first_six c.words.found c.words.count c.words.rest.now c.args.line.now c.words.invariant.room (omega arith) c.words.invariant.same
    ]
