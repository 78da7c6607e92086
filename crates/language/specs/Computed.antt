-- The definition with all that it cites opened, so that closed texts compute: the answer to a text, and the value of a text
-- that is one formula in which `i` is an index (document 01, "Proof cases").
use Rattle.std.specs.Prelude.{List, [], ◌∷◌, ℕ}
use Rattle.value.specs.declared.Value.{Value}
use Rattle.rules.specs.Characters.{bytes}
use Rattle.rules.specs.Limits.{byte_limit, token_limit, name_length, string_length, digit_limit, power_digits, mantissa_limit, scale_limit, name_limit, constraint_limit, data_limit, variable_limit, row_limit, nesting_limit, run_limit, index_limit}
use Rattle.rational.specs.Fraction.{◌⊕◌, ◌⊗◌, integer}
use Rattle.value.specs.Decimal.{tenths, frac, with_sign, seek, choose, fit_of, sum_of, product_of, negate, is_at_most, is_zero, whole_of, of_whole, floor_of, ceiling_of}
use Rattle.value.specs.Literal.{is_digit, all_digits, digit_of, number_from, before, after, is_decimal, decimal_number, decimal_of, significand, exponent, power_by, power_of, scaled_by, raised_by, literal_of}
use Rattle.value.specs.Printed.{digits, width_from, natural, minus_sign, places, printed, printed_whole}
use Rattle.lexer.specs.Marks.{capital_words, small_words}
use Rattle.lexer.specs.Text.{front, behind, same_bytes, is_blank, is_small, in_name, among, name_step, is_capital, word_step, is_sign, order_step, literal_kind, valued, pointed, sign_length, power_size, power_length, powered, literal_step, no_brace, in_string, strange, well_shaped, string_step, step_at, is_wrong, tokens_from, uncounted, counted, tokens}
use Rattle.language.specs.Reader.{passed, next, look, mark_of, name_of, string_of, demand, require, expect, bracket, read_string, find, found, known, read_known, is_index, read_index}
use Rattle.language.specs.Formulas.{factors, term_of, summands, read_sign, formula_of, part_of, head_of, sum_formula, formulas_of, subscripts_of, named_by, nested_of, primary_by, primary_of, inside_at, formula_at, entry_of, entries_of as entries_of·formulas, domain_of, optional_domain}
use Rattle.language.specs.Linear.{head_by_sort, head_by_name, head_by, linear_term, linear_terms, linear_of, plain_form, body_of, sigma_at, linear_at, side_of_term, side_of}
use Rattle.language.specs.Declarations.{new_name, indices_of, is_in, read_due, due_of, subscripted, index_entry, formula_entry, domain_entry, entries_from, list_of, declarations}
use Rattle.language.specs.Grammar.{relation_of, read_relation, constraint_of, constraints_of, read_goal, structure, read_floor}
use Rattle.language.specs.Scope.{bind, unbound, bound_to, same_whole, same_element}
use Rattle.language.specs.Evaluation.{whole_at, limits_of, length_of, fresh, run_of, each, eval, over}
use Rattle.language.specs.Store.{stored, scope_of, portion_by, set_at, element_of, position_run, whole_if, accept, is_given, given_by, all_given}
use Rattle.language.specs.Data.{digits_of, signed_entry, entry_by, read_entry, entries_of as entries_of·data, marks_of, no_repeats, all_in, rearranges, position_of, positions_of, order_from, read_order, bound_of, value_of, read_number, each_read, runs, subscripted_portion, portion_of, portions_of, read_close, data_of, read_end, read_data}
use Rattle.language.specs.Model.{model, what_of, read_model, start, as_discrete, as_continuous, declared, discretes, continuouses}
use Rattle.language.specs.Numbering.{add_variable, add_variables, same_variable, number_of, add_at, variable_at, gather, gathered, fact_of, keep, row_count, add_entry, add_entries, picked, extreme, largest, smallest, lower_of, upper_of, less_rows, equal_rows, rows, generate, floor_at}
use Rattle.language.specs.Listing.{row_lines, var_lines, column_lines, col_lines, lines_of, fields, upper_field, bytes_of, bytes_of_all, low_lines, kind_field}
use Rattle.language.specs.Answer.{accepted, listing_of, fitted, printing, listing, Answer, respond, answer}
use Rattle.language.specs.Outcome.{Outcome, ◌>>=◌}
use Rattle.language.specs.Syntax as Syntax

unfoldable formula_text : List ℕ → Outcome Value
formula_text text = do
  f ← what_of (formula_at (record { spelling = bytes "i"; place = 0; sort = Syntax.index } ∷ []) nesting_limit (tokens text))
  eval f (scope_of [])

unfoldable opened : (List ℕ → ℕ → Answer) × (List ℕ → Outcome Value)
unfolding formula_text byte_limit token_limit name_length string_length digit_limit power_digits mantissa_limit scale_limit name_limit constraint_limit data_limit variable_limit row_limit nesting_limit run_limit index_limit ◌⊕◌ ◌⊗◌ integer tenths frac with_sign seek choose fit_of sum_of product_of negate is_at_most is_zero whole_of of_whole floor_of ceiling_of is_digit all_digits digit_of number_from before after is_decimal decimal_number decimal_of significand exponent power_by power_of scaled_by raised_by literal_of digits width_from natural minus_sign places printed printed_whole capital_words small_words front behind same_bytes is_blank is_small in_name among name_step is_capital word_step is_sign order_step literal_kind valued pointed sign_length power_size power_length powered literal_step no_brace in_string strange well_shaped string_step step_at is_wrong tokens_from uncounted counted tokens passed next look mark_of name_of string_of demand require expect bracket read_string find found known read_known is_index read_index factors term_of summands read_sign formula_of part_of head_of sum_formula formulas_of subscripts_of named_by nested_of primary_by primary_of inside_at formula_at entry_of entries_of·formulas domain_of optional_domain head_by_sort head_by_name head_by linear_term linear_terms linear_of plain_form body_of sigma_at linear_at side_of_term side_of new_name indices_of is_in read_due due_of subscripted index_entry formula_entry domain_entry entries_from list_of declarations relation_of read_relation read_floor constraint_of constraints_of read_goal structure bind unbound bound_to same_whole same_element whole_at limits_of length_of fresh run_of each eval over stored scope_of portion_by set_at element_of position_run whole_if accept is_given given_by all_given digits_of signed_entry entry_by read_entry entries_of·data marks_of no_repeats all_in rearranges position_of positions_of order_from read_order bound_of value_of read_number each_read runs subscripted_portion portion_of portions_of read_close data_of read_end read_data model read_model start as_discrete as_continuous declared discretes continuouses add_variable add_variables same_variable number_of add_at variable_at gather gathered fact_of floor_at keep row_count add_entry add_entries picked extreme largest smallest lower_of upper_of less_rows equal_rows rows generate low_lines row_lines var_lines column_lines col_lines lines_of fields upper_field kind_field bytes_of bytes_of_all accepted listing_of fitted printing listing respond answer
opened = (λ text n. answer text n, λ text. formula_text text)

unfoldable pub computed : List ℕ → ℕ → Answer
unfolding opened
computed text n = opened.0 text n

unfoldable pub computed_value : List ℕ → Outcome Value
unfolding opened
computed_value text = opened.1 text
