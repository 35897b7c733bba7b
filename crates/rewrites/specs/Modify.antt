-- A byte read, changed and put back.
use Rattle.std.specs.Prelude.{ℕ}
use Rattle.isa.specs.declared.operation.ReadModifyWrite.{ReadModifyWrite}
use Rattle.isa.specs.declared.operation.ReadModifyWrite.TheVariants.{Neg, Com, Lsr, Ror, Asr, Lsl, Rol, Dec, Inc, Tst, Clr}
use Rattle.state.specs.declared.registers.Registers.{Registers}
use Rattle.state.specs.Registers.{with_a, with_x, with_flags}
use Rattle.access.specs.Access.{Access, done, read, store, ◌>>=◌}
use Rattle.effects.specs.Modify.{modified}
use Rattle.operands.specs.declared.address.Operand.{Operand}
use Rattle.operands.specs.declared.address.Home.{Home}
use Rattle.operands.specs.declared.address.Home.TheVariants.{Accumulator, Index, Memory}
use Rattle.operands.specs.Address.{home_of}

-- the byte in memory that is changed; CLR reads nothing
abbrev pub cell_read : ReadModifyWrite → ℕ → Access ℕ
cell_read Neg address = read address done
cell_read Com address = read address done
cell_read Lsr address = read address done
cell_read Ror address = read address done
cell_read Asr address = read address done
cell_read Lsl address = read address done
cell_read Rol address = read address done
cell_read Dec address = read address done
cell_read Inc address = read address done
cell_read Tst address = read address done
cell_read Clr address = done 0

-- the byte in memory put back; TST stores nothing
abbrev pub cell_stored : ReadModifyWrite → ℕ → ℕ → Access Unit
cell_stored Neg address b = store address b (done tt)
cell_stored Com address b = store address b (done tt)
cell_stored Lsr address b = store address b (done tt)
cell_stored Ror address b = store address b (done tt)
cell_stored Asr address b = store address b (done tt)
cell_stored Lsl address b = store address b (done tt)
cell_stored Rol address b = store address b (done tt)
cell_stored Dec address b = store address b (done tt)
cell_stored Inc address b = store address b (done tt)
cell_stored Tst address b = done tt
cell_stored Clr address b = store address b (done tt)

-- the byte at an address is read, changed and put back, and then the flags change
abbrev pub cell_modified : ReadModifyWrite → ℕ → Registers → Access Registers
cell_modified operation address r =
    cell_read operation address >>= (λ b.
    cell_stored operation address (modified operation b r.flags).0 >>= (λ _.
    done (with_flags (modified operation b r.flags).1 r)))

-- A, X or the byte at an address is changed
abbrev pub changed_at : ReadModifyWrite → Home → ℕ → Registers → Access Registers
changed_at operation Accumulator address r = done (with_a (modified operation r.a r.flags) r)
changed_at operation Index address r = done (with_x (modified operation r.x r.flags) r)
changed_at operation Memory address r = cell_modified operation address r

-- the operand is changed where it lies
abbrev pub operand_modified : ReadModifyWrite → Operand → Registers → Access Registers
operand_modified operation operand r = changed_at operation (home_of operand.mode) operand.address r
