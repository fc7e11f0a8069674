-- Parts of an answer, one behind the other, where the buffer has room for all of them.
use mathlib.Core.Path.{◌≡◌, refl, sym, ap, subst}
use mathlib.Core.Bool.{Bool, true, false, cond, not}
use mathlib.Core.List.{List, [], ◌++◌}
use Prim.Native.Nat.{ℕ, ◌+◌, ◌≤◌}
use native.Mathlib.Omega.{arith}
use borrow.Author.Tests.{not-true, not-false}
use lib.ListN.{length, length-append}
use Rattle.lines.specs.Line.{fitting, Put}
use Rattle.lines.specs.Fits.{Fits}
use Rattle.lines.proofs.Putting.{put-none, put-more, put-long, put-fitted}

-- bytes that are put as a whole
pub put_whole : {l after bytes : List ℕ} {at end : ℕ} → Put l at (fitting l at bytes) after end → Fits l at bytes after end
put_whole p = record { put = λ room. put-fitted room p }

-- no bytes
pub put-nothing : (l : List ℕ) (at : ℕ) → Fits l at [] l at
put-nothing l at = record { put = λ _. put-none l at [] refl }

-- bytes behind bytes
pub put-behind : {l mid after xs ys : List ℕ} {at next end : ℕ} → Fits l at xs mid next → Fits mid next ys after end → Fits l at (xs ++ ys) after end
put-behind {l} {mid} {after} {xs} {ys} {at} {next} {end} f g = record { put = both }
  where
    both : at + length (xs ++ ys) ≤ length l → Put l at (xs ++ ys) after end
    both room =
        let long = length-append xs ys in
        let p = f.put (omega (arith, room, long)) in
        put-more p (g.put (omega (arith, room, long, p.ends, put-long p)))

-- the same bytes by another name
pub put_same : {l after bytes words : List ℕ} {at end : ℕ} → bytes ≡ words → Fits l at bytes after end → Fits l at words after end
put_same {l} {after} {at} {end} e = subst (λ (b : List ℕ). Fits l at b after end) e

-- bytes that stand only where a test says so
pub put_if : {l after bytes : List ℕ} {at end : ℕ} (is : Bool) → not is ≡ false → Fits l at bytes after end → Fits l at (cond is bytes []) after end
put_if {bytes = bytes} is e = put_same (sym (ap (λ (b : Bool). cond b bytes []) (not-false is e)))

pub put-if-not : (l : List ℕ) (at : ℕ) (bytes : List ℕ) (is : Bool) → not is ≡ true → Fits l at (cond is bytes []) l at
put-if-not l at bytes is e = put_same (sym (ap (λ (b : Bool). cond b bytes []) (not-true is e))) (put-nothing l at)
