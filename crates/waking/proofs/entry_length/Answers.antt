-- `waking::entry_length` meets its contract: behind the second list, which begins behind the first.
use mathlib.Core.Path.{ap, ◌∙◌}
use native.Mathlib.Omega.{arith}
use Rattle.meaning.specs.Book.{behind_list}
use Rattle.waking.proofs.entry_length.Goals as goal

pub returns : goal.returns
returns c =
    let entry = c.args.entry.now in
    record {
      answer = c.behind_list-2.ensures.0 ∙ ap (behind_list entry) c.behind_list.ensures.0;
      few = omega (arith, c.behind_list-2.ensures.1, c.behind_list.ensures.1);
    }
