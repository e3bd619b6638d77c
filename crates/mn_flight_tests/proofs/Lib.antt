mod Witness
