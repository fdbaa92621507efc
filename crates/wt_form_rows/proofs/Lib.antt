mod ChoiceRows
