-- `window::window` meets its contract: the bytes, and that they stand where they stood. Assumes nothing.
use mathlib.Core.Path.{refl, sym, ap, ◌∙◌}
use Prim.Native.Nat.{◌+◌}
use native.Mathlib.Omega.{arith}
use Rattle.window.specs.declared.Shown.TheVariants.{Code, Data}
use Rattle.window.specs.declared.Shown.{Shown}
use Rattle.window.specs.Window.{Found, window_of}
use Rattle.window.proofs.Laws.{ends_at, apart}
use Rattle.window.proofs.window.Goals as goal

pub slice_bounds-result-count : goal.slice_bounds-result-count
slice_bounds-result-count c = let a = c.args in
    let x = ends_at a.file.now a.buffer.now a.shown a.core a.start a.count c.find_window-found.ensures Code c.in-Code.is in
    omega (arith, c.shown_stretch-stretch.ensures, x.ordered)

pub slice_bounds-result-start : goal.slice_bounds-result-start
slice_bounds-result-start c = let a = c.args in
    let x = ends_at a.file.now a.buffer.now a.shown a.core a.start a.count c.find_window-found.ensures Code c.in-Code.is in
    omega (arith, c.shown_stretch-stretch.ensures, x.ordered, x.in_source)

pub slice_bounds-result-end : goal.slice_bounds-result-end
slice_bounds-result-end c = let a = c.args in
    let x = ends_at a.file.now a.buffer.now a.shown a.core a.start a.count c.find_window-found.ensures Code c.in-Code.is in
    omega (arith, c.shown_stretch-stretch.ensures, x.in_source, x.ordered)

pub slice_bounds-result-count-in-Data : goal.slice_bounds-result-count-in-Data
slice_bounds-result-count-in-Data c = let a = c.args in
    let x = ends_at a.file.now a.buffer.now a.shown a.core a.start a.count c.find_window-found.ensures Data c.in-Data.is in
    omega (arith, c.shown_stretch-stretch.ensures, x.ordered)

pub slice_bounds-result-start-in-Data : goal.slice_bounds-result-start-in-Data
slice_bounds-result-start-in-Data c = let a = c.args in
    let x = ends_at a.file.now a.buffer.now a.shown a.core a.start a.count c.find_window-found.ensures Data c.in-Data.is in
    omega (arith, c.shown_stretch-stretch.ensures, x.ordered, x.in_source)

pub slice_bounds-result-end-in-Data : goal.slice_bounds-result-end-in-Data
slice_bounds-result-end-in-Data c = let a = c.args in
    let x = ends_at a.file.now a.buffer.now a.shown a.core a.start a.count c.find_window-found.ensures Data c.in-Data.is in
    omega (arith, c.shown_stretch-stretch.ensures, x.in_source, x.ordered)

pub returns-in-Code : goal.returns-in-Code
returns-in-Code c = let a = c.args in
    let x = ends_at a.file.now a.buffer.now a.shown a.core a.start a.count c.find_window-found.ensures Code c.in-Code.is in
    let place = ap (λ (y : Found). a.file.ref_ptr.1 + y.from) c.find_window-found.ensures in
    (rw (c.shown_stretch-stretch.ensures.0, c.shown_stretch-stretch.ensures.1) x.bytes ∙ ap (λ (y : Shown). window_of a.file.now a.buffer.now y a.core a.start a.count) (sym c.in-Code.is), λ e. (refl, omega (arith, c.shown_stretch-stretch.ensures, place)), λ e. absurd (apart (sym c.in-Code.is ∙ e)))

pub returns-in-Data : goal.returns-in-Data
returns-in-Data c = let a = c.args in
    let x = ends_at a.file.now a.buffer.now a.shown a.core a.start a.count c.find_window-found.ensures Data c.in-Data.is in
    let place = ap (λ (y : Found). a.buffer.ref_ptr.1 + y.from) c.find_window-found.ensures in
    (rw (c.shown_stretch-stretch.ensures.0, c.shown_stretch-stretch.ensures.1) x.bytes ∙ ap (λ (y : Shown). window_of a.file.now a.buffer.now y a.core a.start a.count) (sym c.in-Data.is), λ e. absurd (apart (sym e ∙ c.in-Data.is)), λ e. (refl, omega (arith, c.shown_stretch-stretch.ensures, place)))
