-- `tabled::table_text` meets its contract: the table is said in a text that has room for any, and copied from there as a whole.
use mathlib.Core.Path.{◌∙◌, subst}
use mathlib.Core.List.{List}
use Prim.Native.Nat.{ℕ}
use Rattle.lines.specs.Line.{fitting, Put}
use Rattle.lines.proofs.OwnLine.{copied}
use Rattle.lines.proofs.Saying.{said-all}
use Rattle.tabled.specs.Tabled.{shown_table}
use Rattle.tabled.proofs.TableLong.{table-most}
use Rattle.tabled.proofs.table_text.Goals as goal

pub returns : goal.returns
returns c =
    let a = c.args in
    let out = a.out.now in
    let whole = c.as_slice.ensures ∙ said-all (table-most a.vertices a.table.now) c.new-text.ensures c.say_table.ensures in
    let put = subst (λ (b : List ℕ). Put out 0 (fitting out 0 b) c.put_words.new.out c.put_words.result) whole c.put_words.ensures in
    let all = copied (shown_table a.vertices a.table.now) put in
    record { part = all.0; answer = all.1.0; buffer = all.1.1 }
