-- Where some jumps lead, by their definitions.
use Rattle.std.proofs.Common.{◌≡◌, refl}
use Rattle.mcs51_isa.specs.declared.instr.Instr.TheVariants.{Nop, Ajmp, Long, Ret, BranchFlag, Sjmp, Movc, CjneImmediate}
use Rattle.mcs51_isa.specs.declared.instr.LongJump.TheVariants.{Lcall}
use Rattle.mcs51_isa.specs.declared.instr.ReturnKind.TheVariants.{FromCall}
use Rattle.mcs51_isa.specs.declared.instr.FlagTest.TheVariants.{Jnz}
use Rattle.mcs51_isa.specs.declared.instr.TableBase.TheVariants.{Pc}
use Rattle.mcs51_isa.specs.Operands.{addr11_of, relative_target}
use Rattle.mcs51_isa.specs.Offsets.{offset_to}
use Rattle.mcs51_isa.specs.Flow.{On, Branch, Back, flow_of}

-- SJMP to itself has the offset FEH, the farthest target backwards 80H and forwards 7FH
to_itself : offset_to 2 0 ≡ 0xFE
to_itself = refl

farthest_back : relative_target 0x1002 (offset_to 0x1002 0x0F82) ≡ 0x0F82
farthest_back = refl

farthest_on : relative_target 0x1002 (offset_to 0x1002 0x1081) ≡ 0x1081
farthest_on = refl

-- over the end of the code memory
around : flow_of (Sjmp 2) 0xFFFF ≡ On 1
around = refl

after_nop : flow_of Nop 0x1235 ≡ On 0x1235
after_nop = refl

after_table_read : flow_of (Movc Pc) 0x1235 ≡ On 0x1235
after_table_read = refl

after_page_jump : flow_of (Ajmp (addr11_of 0x1700)) 0x1002 ≡ On 0x1700
after_page_jump = refl

after_call : flow_of (Long Lcall 0x1234) 3 ≡ On 0x1234
after_call = refl

after_test : flow_of (BranchFlag Jnz 0x10) 0x102 ≡ Branch 0x102 0x112
after_test = refl

after_compare : flow_of (CjneImmediate 5 0xFD) 3 ≡ Branch 3 0
after_compare = refl

after_return : flow_of (Ret FromCall) 0x102 ≡ Back
after_return = refl
