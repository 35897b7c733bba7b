-- What an instruction and the entry of a request come to.
use Rattle.std.proofs.Common.{◌≡◌, ℕ, Ok, Err, Result, refl, sym, ap, subst, ◌∙◌}
use Rattle.bus.specs.Cell.{Cells}
use Rattle.access.specs.declared.fault.Fault.{Fault}
use Rattle.access.specs.Access.{Access, done, ◌>>=◌, perform}
use Rattle.access.proofs.Sequence.{and_then, sequenced}
use Rattle.calls.specs.Interrupt.{interrupted}
use Rattle.operands.specs.Leaves.{leaves}
use Rattle.state.specs.declared.live.Live.{Live}
use Rattle.state.specs.declared.registers.Registers.{Registers}
use Rattle.state.specs.declared.standing.Standing.{Standing}
use Rattle.state.specs.declared.standing.Standing.TheVariants.{Running}
use Rattle.state.specs.Lines.{served_line, vector_of}
use Rattle.state.specs.Registers.{with_pc}
use Rattle.machine.specs.declared.decode.Decoded.{Decoded}
use Rattle.machine.specs.Act.{stands_after}
use Rattle.machine.specs.Execute.{Executed, carried_out, executes, moved_on, operated}
use Rattle.machine.specs.Request.{entered}

-- the answer of a call, the registers after it and the cells
abbrev pub Left : Type 0
Left = Result Unit Fault × Registers × Cells

module _ (live : Live) (standing : Standing) (cycles : ℕ) (back : Registers → Registers) where
  -- a fault, and the registers
  abbrev kept : Fault → Registers → Cells → Result ℕ Fault × Live × Cells
  kept fault r m = (Err fault, record live { registers = r }, m)

  -- what is made of a call's answer; a fault puts the registers back
  abbrev pub made : Left → Result ℕ Fault × Live × Cells
  made (Ok _, r, m) = (Ok cycles, record live { registers = r; standing = standing }, m)
  made (Err fault, r, m) = kept fault (back r) m

  -- how the accesses end
  abbrev ends : Registers → Access Executed
  ends r = done (record { registers = r; standing = standing; cycles = cycles })

  module _ (old : Registers) (same : live.registers ≡ back old) where
    told : (p : Result Registers Fault × Cells) → executes live (and_then p ends) ≡ made (leaves old p)
    told (Ok r, m) = refl
    told (Err fault, m) = ap (λ (r : Registers). kept fault r m) same

    -- the accesses of a call, and the end, come to what is made of the call's answer
    executed : (t : Access Registers) (m : Cells) {l : Left} → l ≡ leaves old (perform t m) → executes live (perform (t >>= ends) m) ≡ made l
    executed t m e = ap (executes live) (sequenced ends t m) ∙ told (perform t m) ∙ ap made (sym e)

-- a decoded instruction comes to what is made of its operation's answer
pub carried : (live : Live) (d : Decoded) (m : Cells) {moved : Registers} {l : Left} → moved ≡ moved_on d live.registers →
    l ≡ leaves moved (perform (operated d moved live.lines) m) →
    executes live (perform (carried_out live d) m) ≡ made live (stands_after d.row.operation live.standing) d.row.cycles (with_pc live.registers.pc) l
carried live d m {l = l} is e =
    executed live _ _ (with_pc live.registers.pc) (moved_on d live.registers) refl (operated d (moved_on d live.registers) live.lines) m
    (subst (λ (r : Registers). l ≡ leaves r (perform (operated d r live.lines) m)) is e)

-- the entry of a request comes to what is made of the interrupt's answer
pub requested : (live : Live) (figure : ℕ) (m : Cells) {vector : ℕ} {l : Left} → vector ≡ vector_of (served_line live.lines) →
    l ≡ leaves live.registers (perform (interrupted vector live.registers) m) →
    executes live (perform (entered figure live) m) ≡ made live Running figure (λ r. r) l
requested live figure m {l = l} is e =
    executed live _ _ (λ r. r) live.registers refl (interrupted (vector_of (served_line live.lines)) live.registers) m
    (subst (λ (v : ℕ). l ≡ leaves live.registers (perform (interrupted v live.registers) m)) is e)
