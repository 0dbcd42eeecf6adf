-- `driver_input::input::Window::skip`: how many bytes are left to skip; each turn skips at least one.
use Rattle.driver_input.proofs.input.Window.skip.Given as goal

abbrev pub decreases-loop-left : goal.decreases-loop-left
decreases-loop-left g l = l.left
