-- Texts put one behind the other, turn by turn, where the buffer has room for all of them.
use mathlib.Core.Path.{◌≡◌, refl, sym, ap}
use mathlib.Core.List.{List, ◌++◌}
use Prim.Native.Nat.{ℕ, ◌+◌}
use native.Mathlib.Numerals.{add-one}
use Rattle.lines.specs.Fits.{Fits}
use Rattle.lines.proofs.Fitting.{put-nothing, put-behind, put_same}
use Rattle.graph.specs.Drawing.{texts}

texts-one : (k : ℕ) (f : ℕ → List ℕ) → texts (k + 1) f ≡ texts k f ++ f k
unfolding texts
texts-one k f = rw (add-one k) refl

-- before the first turn, one turn more, and all of them
pub texts-start : (l : List ℕ) (at : ℕ) (f : ℕ → List ℕ) → Fits l at (texts 0 f) l at
unfolding texts
texts-start l at f = put-nothing l at

pub texts-next : {l mid after : List ℕ} {at next end : ℕ} (k : ℕ) (f : ℕ → List ℕ)
    → Fits l at (texts k f) mid next → Fits mid next (f k) after end → Fits l at (texts (k + 1) f) after end
texts-next k f before more = put_same (sym (texts-one k f)) (put-behind before more)

pub texts-all : {l after : List ℕ} {at end k n : ℕ} (f : ℕ → List ℕ) → k ≡ n → Fits l at (texts k f) after end → Fits l at (texts n f) after end
texts-all f e = put_same (ap (λ (k : ℕ). texts k f) e)
